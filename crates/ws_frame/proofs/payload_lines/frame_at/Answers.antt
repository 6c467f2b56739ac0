-- Less than a header stands at the front, less than its payload, or a frame.
use Rattle.std.proofs.Common.{arith, ◌+◌, subst, sym}
use Rattle.ws_frame.specs.InnerPayloads.{IsFrameAt}
use Rattle.ws_frame.proofs.PutFrames.{frame_at_front, part_of_payload, part_without_header}
use Rattle.ws_frame.proofs.payload_lines.frame_at.Goals as goal

pub returns-in-Need : goal.returns-in-Need
returns-in-Need c = part_without_header c.args.bytes.now c.in-Need.ensures

pub returns-then-payload_len-bytes : goal.returns-then-payload_len-bytes
returns-then-payload_len-bytes c =
    let (begins, small) = c.in-Got.ensures in
    part_of_payload c.args.bytes.now c.in-Got.header c.in-Got.used begins small
    (omega (arith, c.if-payload_len-bytes.true, c.payload_len.ensures.value))

pub returns-else-payload_len-bytes : goal.returns-else-payload_len-bytes
returns-else-payload_len-bytes c =
    let (begins, small) = c.in-Got.ensures in
    let len = c.in-Got.header.len in
    let used = c.in-Got.used in
    subst (λ n. IsFrameAt c.args.bytes.now c.in-Got.header used (used + n)) (sym c.payload_len-in-Got.ensures.value)
    (frame_at_front c.args.bytes.now c.in-Got.header used begins (λ i. omega (arith, c.type_inv.bytes i)) small
    (omega (arith, c.if-payload_len-bytes.false, c.payload_len.ensures.value)))
