-- The first bytes at once, and those behind them, are masked as the whole is.
use Rattle.std.proofs.Common.{◌++◌, drop, refl, arith}
use Rattle.ws_wire.proofs.Masks.{lanes_more, lanes_done}
use Rattle.ws_wire.proofs.masking.mask_fewer.Goals as goal

pub returns : goal.returns
returns c =
    let first = lanes_more 1 c.args.key c.args.phase 0 4 c.args.bytes.now c.mask_by_key.new.bytes c.if-bytes-lt-KEY.false refl (c.mask_by_key.ensures c.args.key c.args.phase c.requires.turned) in
    lanes_done c.args.key c.args.phase 4 _ (c.mask_by_key.new.bytes ++ drop 4 c.args.bytes.now) c.mask_plainly-2.new.bytes _ (omega arith) refl c.mask_plainly-2.ensures.bytes first
