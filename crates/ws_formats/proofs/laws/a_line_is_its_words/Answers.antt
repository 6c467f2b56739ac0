-- A line is its words joined by one space, and words without a space are those of the line that they make.
use Rattle.std.proofs.lemmas.List.Splits.{join_with_byte-slice_split}
use Rattle.ws_formats.proofs.LineWords.{split_joined}
use Rattle.ws_formats.proofs.laws.a_line_is_its_words.Goals as goal

pub returns-clause-joined : goal.returns-clause-joined
returns-clause-joined c = λ line. join_with_byte-slice_split 32 line

pub returns-clause-parted : goal.returns-clause-parted
returns-clause-parted c = λ word words h. split_joined word words h
