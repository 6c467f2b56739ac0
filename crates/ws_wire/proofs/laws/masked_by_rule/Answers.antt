-- Bytes are masked by the rule on each byte exactly where they are the masked list.
use Rattle.ws_wire.proofs.Masks.{masked_is_rule, rule_is_masked}
use Rattle.std.proofs.Common.{subst, sym, List, ℕ}
use Rattle.ws_wire.specs.Masking.{IsMasked}
use Rattle.ws_wire.proofs.laws.masked_by_rule.Goals as goal

pub returns : goal.returns
returns c = λ key phase old new. (rule_is_masked key phase old new, λ e. subst (λ (t : List ℕ). IsMasked key phase old t) (sym e) (masked_is_rule key phase old))
