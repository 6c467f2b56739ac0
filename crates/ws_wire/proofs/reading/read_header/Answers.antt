-- A header that was made of the fields read is the one at the front, whatever its length.
use Rattle.std.proofs.Common.{arith, ap}
use Rattle.ws_wire.specs.Header.{HeaderFields}
use Rattle.ws_wire.proofs.Headers.{header_begins}
use Rattle.ws_wire.proofs.reading.read_header.Goals as goal

pub returns-then-len-lt-BAD_LENGTH : goal.returns-then-len-lt-BAD_LENGTH
returns-then-len-lt-BAD_LENGTH c =
    let byte = c.type_inv.bytes in
    let two = c.if-bytes-lt2.false in
    let front = header_begins _ _ _ _ _ _ (λ i. omega (arith, byte i)) two c.in-Some.ensures c.in-Some-key_at.ensures in
    let made = c.in-Some-new.ensures.made.0 in
    (rw made front, omega (arith, ap (λ (h : HeaderFields). h.len) made, c.if-len-lt-BAD_LENGTH.true))

pub returns-else-len-lt-BAD_LENGTH : goal.returns-else-len-lt-BAD_LENGTH
returns-else-len-lt-BAD_LENGTH c =
    let byte = c.type_inv.bytes in
    let two = c.if-bytes-lt2.false in
    let front = header_begins _ _ _ _ _ _ (λ i. omega (arith, byte i)) two c.in-Some.ensures c.in-Some-key_at.ensures in
    let made = c.in-Some-new.ensures.made.0 in
    (rw made front, omega (arith, ap (λ (h : HeaderFields). h.len) made, c.if-len-lt-BAD_LENGTH.false))
