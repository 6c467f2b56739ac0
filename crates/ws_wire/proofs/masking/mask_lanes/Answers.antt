-- A vector's bytes xored with the lanes of a key are masked.
use Rattle.ws_wire.proofs.Masks.{stored_lanes}
use Rattle.ws_wire.proofs.masking.mask_lanes.Goals as goal

pub returns : goal.returns
returns c = λ key phase are. stored_lanes 32 key phase c.args.lanes c.args.bytes.now c.requires.lanes c.requires.bytes are
