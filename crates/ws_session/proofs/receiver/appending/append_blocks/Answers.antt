-- Block after block and then the rest, all bytes stand masked behind what was kept.
use Rattle.std.proofs.Common.{arith}
use Rattle.ws_session.proofs.MaskedBlocks.{masked_further, masked_whole}
use Rattle.ws_session.proofs.receiver.appending.append_blocks.Goals as goal

pub loop-at-preserved : goal.loop-at-preserved
loop-at-preserved c =
    let lanes = c.key_lanes-lanes.ensures.lanes in
    let put = c.in_ok-append_block.ensures.put c.args.key c.args.phase lanes in (
      omega arith,
      omega arith,
      masked_further c.args.key c.args.phase c.loop-at.at _ 256 c.args.bytes.now c.args.kept.now.items c.loop-at.kept.items _ c.loop-at.invariant.0 c.loop-at.invariant.1 (omega arith) c.loop-at.invariant.2 put,
      omega (arith, c.in_ok-append_block.ensures.len),
    )

pub returns-clause-put : goal.returns-clause-put
returns-clause-put c =
    masked_whole c.args.key c.args.phase c.loop-at.at _ c.args.bytes.now c.args.kept.now.items c.loop-at.kept.items _ c.loop-at.invariant.0 c.loop-at.invariant.1 (omega arith) c.loop-at.invariant.2 c.in_ok-append_then_mask.ensures.put
