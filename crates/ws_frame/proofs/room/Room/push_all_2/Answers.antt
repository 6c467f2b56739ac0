-- The table has both digits.
use Rattle.std.proofs.Common.{◌∙◌, ◌++◌, List, ℕ, ap}
use Rattle.ws_frame.proofs.DecimalDigits.{decimals_at}
use Rattle.ws_frame.proofs.room.Room.push_all_2.Goals as goal

pub returns-clause-pushed : goal.returns-clause-pushed
returns-clause-pushed c = c.push.ensures.pushed ∙ ap (λ (t : List ℕ). c.args.self.now ++ t) (decimals_at c.args.number c.requires.few)
