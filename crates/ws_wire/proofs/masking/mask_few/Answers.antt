-- The first bytes at once, and those behind them, are masked as the whole is.
use Rattle.std.proofs.Common.{◌++◌, drop, refl, arith}
use Rattle.ws_wire.proofs.Masks.{lanes_more, lanes_done}
use Rattle.ws_wire.proofs.masking.mask_few.Goals as goal

pub returns : goal.returns
returns c =
    let first = lanes_more 2 c.args.key c.args.phase 0 8 c.args.bytes.now c.mask_quarter_lanes.new.bytes c.if-bytes-lt-QUARTER.false refl (c.mask_quarter_lanes.ensures c.args.key c.args.phase (c.quarter_key_lanes.ensures.lanes c.args.key c.args.phase c.requires.turned)) in
    lanes_done c.args.key c.args.phase 8 _ (c.mask_quarter_lanes.new.bytes ++ drop 8 c.args.bytes.now) c.mask_fewer-2.new.bytes _ (omega arith) refl c.mask_fewer-2.ensures first
