-- A piece after whole characters is read up to its last one.
use Rattle.ws_text.proofs.Pieces.{front_joins, front_breaks, front_is_all}
use Rattle.ws_text.proofs.unfinished.push_few.Goals as goal

pub returns-then-whole-piece-clause-text : goal.returns-then-whole-piece-clause-text
returns-then-whole-piece-clause-text c = λ text so_far. front_is_all text c.args.piece.now c.valid_behind-whole.result so_far c.valid_behind-whole.ensures.text c.if-whole-piece.true

pub returns-in-Ok-clause-text : goal.returns-in-Ok-clause-text
returns-in-Ok-clause-text c = λ text so_far. front_joins text c.args.piece.now c.valid_behind-whole.result so_far c.valid_behind-whole.ensures.text _ c.in-Ok.ensures.text

pub returns-in-Err-clause-text : goal.returns-in-Err-clause-text
returns-in-Err-clause-text c = λ text so_far. front_breaks text c.args.piece.now c.valid_behind-whole.result so_far c.valid_behind-whole.ensures.text c.in-Err.place c.in-Err.ensures.text
