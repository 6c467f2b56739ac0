-- What the first byte of a header says: whether the frame is a ping or a pong.
use Rattle.std.proofs.Common.{◌≡◌, ℕ, zero, suc, ◌+◌, ◌*◌, ◌<◌, ◌≤◌, ◌%◌, Bool, true, false, refl, arith}
use Rattle.ws_wire.specs.Header.{HeaderFields, first_byte, top_bit}
use Rattle.ws_session.specs.PingsAndPongs.{means_ping_or_pong}

-- its lower half is the opcode
pub opcode_in_first : (header : HeaderFields) → header.opcode < 16 → first_byte header % 16 ≡ header.opcode
opcode_in_first header less = pick header.fin
  where
    pick : (fin : Bool) → (top_bit fin + (16 * header.rsv + header.opcode)) % 16 ≡ header.opcode
    pick true = omega (arith, less)
    pick false = omega (arith, less)

-- that of a data frame is none of theirs
pub data_is_neither : (opcode : ℕ) → opcode ≤ 2 → means_ping_or_pong opcode ≡ false
data_is_neither zero less = refl
data_is_neither (suc zero) less = refl
data_is_neither (suc (suc zero)) less = refl
data_is_neither (suc (suc (suc n))) less = absurd (omega (arith, less))
