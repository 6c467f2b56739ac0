-- A word of no bytes is that of no segment, and one that is no word spells none.
use Rattle.std.proofs.Common.{◌≡◌, ◌∙◌, sym}
use Rattle.ws_followed.proofs.SegmentLines.{is_hex_word, no_segment_of_none}
use Rattle.ws_followed.proofs.segment.read_bytes.Goals as goal

pub returns-then-len-eq0 : goal.returns-then-len-eq0
returns-then-len-eq0 c = λ _ value is.
    no_segment_of_none c.in-Ok.bytes c.args.word.now c.in-Ok.ensures (sym c.len.ensures ∙ c.if-len-eq0.true) value is

pub returns-in-Err : goal.returns-in-Err
returns-in-Err c = λ e value is. c.in-Err.ensures e value (is_hex_word value c.args.word.now is)
