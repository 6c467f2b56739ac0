-- Whether letters stand behind digits is asked of the first byte that is no digit.
use Rattle.std.proofs.Common.{◌≡◌, ◌↔◌, ℕ, IsTrue, Option, subst}
use Rattle.wst_commands.specs.TimeLimits.{HasUnitAt}
use Rattle.wst_commands.proofs.time_limit.is_with_unit.Goals as goal

pub returns : goal.returns
returns c =
    subst (λ (at : Option ℕ). IsTrue c.has_unit_at.result ↔ HasUnitAt at c.args.word.now) c.first_no_digit.ensures.first
    c.has_unit_at.ensures
