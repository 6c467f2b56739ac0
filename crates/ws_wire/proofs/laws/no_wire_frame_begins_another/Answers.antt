-- No frame begins another, in whatever form their headers are.
use Rattle.ws_wire.proofs.Frames.{no_wire_begins}
use Rattle.ws_wire.proofs.laws.no_wire_frame_begins_another.Goals as goal

pub returns : goal.returns
returns c = no_wire_begins
