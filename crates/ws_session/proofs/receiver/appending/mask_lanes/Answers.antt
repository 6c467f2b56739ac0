-- Sixteen bytes that are xored with the key's lanes are masked.
use Rattle.ws_wire.proofs.Masks.{stored_lanes}
use Rattle.ws_session.proofs.receiver.appending.mask_lanes.Goals as goal

pub returns : goal.returns
returns c = λ key phase are. stored_lanes 16 key phase c.args.lanes c.args.bytes.now c.requires.lanes c.requires.bytes are
