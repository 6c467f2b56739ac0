-- The lines that are written are those of a capture of the turns run together.
use Rattle.ws_scripts.proofs.CaptureLaws.{parted_is_same, written_is_capture}
use Rattle.ws_scripts.proofs.laws.written_captures_are_read.Goals as goal

pub returns-clause-read : goal.returns-clause-read
returns-clause-read c = written_is_capture

pub returns-clause-same : goal.returns-clause-same
returns-clause-same c = parted_is_same
