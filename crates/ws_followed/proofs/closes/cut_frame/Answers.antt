-- A frame stands at the front where a header does whose length has no top bit, and all of the payload behind it.
use Rattle.std.proofs.Common.{◌≤◌, List, ℕ, ap, arith, drop, length, rules}
use Rattle.ws_wire.proofs.Frames.{no_wire_of_cut_payload}
use Rattle.ws_followed.proofs.ClosingFrames.{frame_here, none_unread}
use Rattle.ws_followed.proofs.closes.cut_frame.Goals as goal

pub returns-in_default : goal.returns-in_default
returns-in_default c = none_unread c.args.bytes.now c.read_header.result c.read_header.ensures c.in_default.not-Got

pub returns-then-rest-len : goal.returns-then-rest-len
returns-then-rest-len c =
    let size = ap (λ (l : List ℕ). length l) c.split_at.ensures.back in
    no_wire_of_cut_payload c.args.bytes.now c.in-Got.header c.in-Got.used c.in-Got.ensures.0
    (omega (arith, size, c.if-rest-len.true, c.payload_len-len.ensures.value))

pub returns : goal.returns
returns c =
    let bytes = c.args.bytes.now in
    let header = c.in-Got.header in
    let used = c.in-Got.used in
    let size = ap (λ (l : List ℕ). length l) c.split_at.ensures.back in
    let long : header.len ≤ length (drop used bytes) =
    omega (arith, size, c.if-rest-len.false, c.payload_len-len.ensures.value) in
    frame_here bytes header used c.split_at-2.result.1.now c.in-Got.ensures.0 (λ i. omega (arith, c.type_inv.bytes i))
    c.in-Got.ensures.1 long (search rules)
