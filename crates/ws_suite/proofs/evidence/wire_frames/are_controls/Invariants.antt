-- Frame after frame: those passed are right ones, so those that are left decide.
use Rattle.std.proofs.Common.{◌↔◌, length}
use Rattle.ws_suite.specs.Marks.{AreControls}
use Rattle.ws_suite.proofs.evidence.wire_frames.are_controls.Given as goal

-- those that are left decide
abbrev pub invariant-loop-frame : goal.invariant-loop-frame
invariant-loop-frame l = AreControls l.role l.rest ↔ AreControls l.role l.fn.bytes

abbrev pub decreases-loop-frame : goal.decreases-loop-frame
decreases-loop-frame l = length l.rest
