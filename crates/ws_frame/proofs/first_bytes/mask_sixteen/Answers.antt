-- Sixteen bytes that are xored with the key's lanes are masked.
use Rattle.ws_wire.proofs.Masks.{stored_lanes}
use Rattle.ws_frame.proofs.first_bytes.mask_sixteen.Goals as goal

pub returns-clause-masked : goal.returns-clause-masked
returns-clause-masked c = stored_lanes 16 c.args.key 0 c.sixteen_lanes.result c.args.bytes.now c.sixteen_lanes.ensures.len c.requires c.sixteen_lanes.ensures.lanes
