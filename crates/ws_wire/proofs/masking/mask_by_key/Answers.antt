-- Four bytes xored with the lanes of a turned key are masked.
use Rattle.ws_wire.proofs.Masks.{stored_lanes}
use Rattle.ws_wire.proofs.masking.mask_by_key.Goals as goal

pub returns : goal.returns
returns c = λ key phase are. stored_lanes 4 key phase c.args.turned c.args.bytes.now c.requires.lanes c.requires.bytes are
