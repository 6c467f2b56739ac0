-- The vectors of sixteen bytes, one after the other, and what is behind them, are masked as the whole is.
use Rattle.std.proofs.Common.{◌∙◌, arith}
use Rattle.ws_wire.proofs.Masks.{lanes_more, lanes_done}
use Rattle.ws_wire.proofs.masking.mask_rest.Goals as goal

pub loop-bytes-preserved : goal.loop-bytes-preserved
loop-bytes-preserved c = (
  omega arith,
  lanes_more 4 c.args.key c.args.phase c.loop-bytes.at _ c.loop-bytes.bytes c.mask_half_lanes.new.bytes (omega arith) (omega arith) (c.mask_half_lanes.ensures c.args.key c.args.phase (c.half_key_lanes-lanes.ensures.lanes c.args.key c.args.phase c.requires.turned))
      ∙ c.loop-bytes.invariant.1,
)

pub returns : goal.returns
returns c =
    lanes_done c.args.key c.args.phase c.loop-bytes.at _ c.loop-bytes.bytes c.mask_few.new.bytes _ c.loop-bytes.invariant.0 (omega arith) c.mask_few.ensures c.loop-bytes.invariant.1
