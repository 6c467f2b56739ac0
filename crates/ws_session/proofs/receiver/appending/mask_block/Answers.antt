-- Lanes after lanes, all bytes of the block are masked.
use Rattle.std.proofs.Common.{◌∙◌, arith}
use Rattle.ws_wire.proofs.Masks.{lanes_more}
use Rattle.ws_session.proofs.receiver.appending.mask_block.Goals as goal

pub loop-at-preserved : goal.loop-at-preserved
loop-at-preserved c = (
  omega arith,
  omega arith,
  omega arith,
  λ key phase are. lanes_more 4 key phase c.loop-at.at _ c.loop-at.block c.mask_lanes.new.bytes (omega arith) (omega arith) (c.mask_lanes.ensures key phase are) ∙ c.loop-at.invariant.3 key phase are,
)
