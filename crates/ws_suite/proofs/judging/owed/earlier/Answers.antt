-- What is before the lesser of two turns is before both.
use Rattle.std.proofs.Common.{◌∙◌, ℕ, ap, nat_lt}
use Rattle.ws_suite.proofs.OwedLemmas.{before_both}
use Rattle.ws_suite.proofs.judging.owed.earlier.Goals as goal

pub returns : goal.returns
returns c = λ turn. ap (λ (n : ℕ). nat_lt turn n) c.min.ensures ∙ before_both turn c.args.one c.args.other
