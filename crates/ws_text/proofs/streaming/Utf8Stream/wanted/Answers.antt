-- A text wants as many bytes as its unfinished character does.
use Rattle.ws_text.proofs.Pieces.{read_of}
use Rattle.ws_text.proofs.Wanted.{wanted_by_unfinished}
use Rattle.ws_text.proofs.streaming.Utf8Stream.wanted.Goals as goal

pub returns-clause-wanted : goal.returns-clause-wanted
returns-clause-wanted c = λ text h. wanted_by_unfinished text _ _ (read_of _ _ _ text c.if-self.false c.self.view_is h) c.missing.ensures.wanted
