-- The first node is no later than any leaf.
use Rattle.std.proofs.Common.{◌∙◌, ap, sym}
use Rattle.std.specs.List.{slice_get}
use Rattle.ws_loops.proofs.LimitLemmas.{soonest_so}
use Rattle.ws_loops.proofs.limits.soonest.Goals as goal

pub returns : goal.returns
returns c = soonest_so c.args.limits.now c.time_at.result c.requires.tree
    (ap (λ l. slice_get l 1) (sym c.as_slice.ensures.value) ∙ c.time_at.ensures)
