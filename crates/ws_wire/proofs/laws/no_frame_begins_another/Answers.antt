-- No frame as it is sent begins another.
use Rattle.ws_wire.proofs.Frames.{no_frame_begins}
use Rattle.ws_wire.proofs.laws.no_frame_begins_another.Goals as goal

pub returns : goal.returns
returns c = no_frame_begins
