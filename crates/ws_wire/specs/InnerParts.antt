-- The parts of a header as `read_header` finds them, one after the other. A reader may skip this file: no public
-- contract speaks of it.
use Rattle.std.specs.Prelude.{◌≡◌, ℕ, ◌≤◌, ◌%◌, nat_le, List, ◌++◌, length, drop, slice_index, Option}
use Rattle.ws_wire.specs.declared.header.Form.{Form}
use Rattle.ws_wire.specs.Header.{CanHold, IsMaskingKey, length_bits, length_bytes, is_masked, key_bytes}

-- the length, after the first two bytes, ends at this place
pub record LengthEnds (bytes : List ℕ) (form : Form) (len at : ℕ) : Type 0 where
  pub can_hold : CanHold form len
  pub bits : slice_index bytes 1 % 128 ≡ length_bits form len
  pub within : at ≤ length bytes
  pub layout : drop 2 bytes ≡ length_bytes form len ++ drop at bytes

-- there is no whole length
abbrev pub LengthIsCut : List ℕ → Type 0
LengthIsCut bytes = (form : Form) (len : ℕ) (rest : List ℕ) → CanHold form len
    → slice_index bytes 1 % 128 ≡ length_bits form len
    → drop 2 bytes ≡ length_bytes form len ++ rest → ⊥

-- the key, from a place on, ends at another
pub record KeyEnds (bytes : List ℕ) (from : ℕ) (key : Option (List ℕ)) (at : ℕ) : Type 0 where
  pub is_key : IsMaskingKey key
  pub bit : is_masked key ≡ nat_le 128 (slice_index bytes 1)
  pub within : at ≤ length bytes
  pub layout : drop from bytes ≡ key_bytes key ++ drop at bytes

-- there is no whole key
abbrev pub KeyIsCut : List ℕ → ℕ → Type 0
KeyIsCut bytes from = (key : Option (List ℕ)) (rest : List ℕ) → IsMaskingKey key
    → is_masked key ≡ nat_le 128 (slice_index bytes 1)
    → drop from bytes ≡ key_bytes key ++ rest → ⊥
