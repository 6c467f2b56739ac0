-- There are no more than of four steps.
use Rattle.std.proofs.Common.{arith}
use Rattle.ws_sweep.proofs.Numbers.{count_within}
use Rattle.ws_sweep.proofs.short_script.ShortScripts.up_to.Goals as goal

pub invariant_of-result : goal.invariant_of-result
invariant_of-result c = let few = count_within c.args.steps c.requires in omega (arith, few, c.script_count.ensures)
