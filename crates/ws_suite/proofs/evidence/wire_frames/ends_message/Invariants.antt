-- Frame after frame: none of those passed says whether the message ends, so those that are left decide.
use Rattle.std.proofs.Common.{length}
use Rattle.ws_suite.specs.Marks.{end_message}
use Rattle.ws_suite.proofs.HiddenFaults.{IsDecidedBy}
use Rattle.ws_suite.proofs.evidence.wire_frames.ends_message.Given as goal

-- those that are left decide
abbrev pub invariant-loop-frame : goal.invariant-loop-frame
invariant-loop-frame l = IsDecidedBy end_message l.rest l.fn.bytes

abbrev pub decreases-loop-frame : goal.decreases-loop-frame
decreases-loop-frame l = length l.rest
