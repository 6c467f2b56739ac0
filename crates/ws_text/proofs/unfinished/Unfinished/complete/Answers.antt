-- A byte with which the text goes on leaves its unfinished character kept; another one breaks the text there.
use Rattle.ws_text.proofs.Pieces.{piece_goes_on, piece_breaks, still_unfinished}
use Rattle.ws_text.proofs.unfinished.Unfinished.complete.Goals as goal

pub returns-in-None-clause-text : goal.returns-in-None-clause-text
returns-in-None-clause-text c = λ text h. piece_breaks text _ _ _ c.loop-place-test.true (c.loop-place.invariant.1 text h) c.in-None.ensures

pub loop-place-preserved : goal.loop-place-preserved
loop-place-preserved c = (still_unfinished _ _ _ c.in-Some.ensures, λ text h. piece_goes_on text _ _ _ _ c.loop-place-test.true (c.loop-place.invariant.1 text h) c.in-Some.ensures)
