-- A piece is read up to its last character.
use Rattle.ws_text.proofs.Pieces.{parts_join, parts_break, parts_end}
use Rattle.ws_text.proofs.unfinished.Unfinished.push_any.Goals as goal

pub returns-in-Ok-clause-text : goal.returns-in-Ok-clause-text
returns-in-Ok-clause-text c = λ text h. parts_join text c.args.piece.now _ c.in_ok-unfinished.used c.valid_prefix-whole.result (c.in_ok-unfinished.ensures.text text h) c.in_ok-unfinished.ensures.used.1 c.valid_prefix-whole.ensures.text _ c.in-Ok.ensures.text

pub returns-in-Err-clause-text : goal.returns-in-Err-clause-text
returns-in-Err-clause-text c = λ text h. parts_break text c.args.piece.now _ c.in_ok-unfinished.used c.valid_prefix-whole.result (c.in_ok-unfinished.ensures.text text h) c.in_ok-unfinished.ensures.used.1 c.valid_prefix-whole.ensures.text c.in-Err.place c.in-Err.ensures.text

pub returns-then-whole-rest-clause-text : goal.returns-then-whole-rest-clause-text
returns-then-whole-rest-clause-text c = λ text h. parts_end text c.args.piece.now _ c.in_ok-unfinished.used c.valid_prefix-whole.result (c.in_ok-unfinished.ensures.text text h) c.in_ok-unfinished.ensures.used.1 c.valid_prefix-whole.ensures.text c.if-whole-rest.true
