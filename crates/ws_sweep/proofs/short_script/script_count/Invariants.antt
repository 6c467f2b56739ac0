-- The count is that of as many steps as were taken.
use Rattle.std.proofs.Common.{◌≡◌}
use Rattle.ws_sweep.specs.Order.{count_of_scripts}
use Rattle.ws_sweep.proofs.short_script.script_count.Given as goal

abbrev pub invariant-loop : goal.invariant-loop
invariant-loop l = l.count ≡ count_of_scripts l.counter
