-- A first byte is a character of its own up to 127, begins a longer one from 194 to 244, and begins none else.
use Rattle.std.proofs.Common.{refl, arith, inl, inr}
use Rattle.ws_text.proofs.Characters.{character_1, not_first}
use Rattle.ws_text.proofs.UnfinishedCharacters.{one_unfinished}
use Rattle.ws_text.proofs.unfinished.after_first.Goals as goal

pub returns-in-0-to-127 : goal.returns-in-0-to-127
returns-in-0-to-127 c = inl (refl, (c.args.byte, character_1 c.args.byte (omega arith)))

pub returns-in-194-to-244 : goal.returns-in-194-to-244
returns-in-194-to-244 c = inr (refl, one_unfinished c.args.byte (omega arith) (omega arith))

pub returns-in-128-to-193 : goal.returns-in-128-to-193
returns-in-128-to-193 c = not_first c.args.byte (omega arith) (inl (omega arith))

pub returns-in-245-to-255 : goal.returns-in-245-to-255
returns-in-245-to-255 c = not_first c.args.byte (omega arith) (inr (omega arith))
