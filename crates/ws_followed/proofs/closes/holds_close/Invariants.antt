-- Frame after frame: none of those passed is a close, so those that are left decide.
use Rattle.std.proofs.Common.{◌↔◌, length}
use Rattle.ws_followed.specs.Closes.{HoldsClose}
use Rattle.ws_followed.proofs.closes.holds_close.Given as goal

-- those that are left decide
abbrev pub invariant-loop-header : goal.invariant-loop-header
invariant-loop-header l = HoldsClose l.rest ↔ HoldsClose l.fn.bytes

abbrev pub decreases-loop-header : goal.decreases-loop-header
decreases-loop-header l = length l.rest
