-- Frame after frame: none of those passed is a close, so those that are left decide.
use Rattle.std.proofs.Common.{length}
use Rattle.std.specs.List.{list_any}
use Rattle.ws_suite.specs.Marks.{is_close_frame}
use Rattle.ws_suite.proofs.HiddenFaults.{IsDecidedBy}
use Rattle.ws_suite.proofs.evidence.wire_frames.holds_close.Given as goal

-- those that are left decide
abbrev pub invariant-loop-frame : goal.invariant-loop-frame
invariant-loop-frame l = IsDecidedBy (list_any is_close_frame) l.rest l.fn.bytes

abbrev pub decreases-loop-frame : goal.decreases-loop-frame
decreases-loop-frame l = length l.rest
