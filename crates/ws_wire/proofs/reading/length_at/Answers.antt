-- The two or eight bytes behind 126 or 127 are read as the length that they spell.
use Rattle.std.proofs.Common.{◌≡◌, ◌%◌, arith, get_or, ◌∙◌}
use Rattle.ws_wire.proofs.Headers.{two_read, eight_read}
use Rattle.ws_wire.proofs.reading.length_at.Goals as goal

pub returns-then-bits-eq126 : goal.returns-then-bits-eq126
returns-then-bits-eq126 c = two_read _ _ (λ i. omega (arith, c.type_inv.bytes i)) c.if-bytes-lt4.false c.if-bits-eq126.true (c.from-then-bits-eq126.ensures ∙ c.read_u16.ensures)

pub returns : goal.returns
returns c =
    let bits : get_or c.args.bytes.now 1 0 % 128 ≡ 127 = omega arith in
    eight_read _ _ (λ i. omega (arith, c.type_inv.bytes i)) c.if-bytes-lt10.false bits c.read_u64.ensures
