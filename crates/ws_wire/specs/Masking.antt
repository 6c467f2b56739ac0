-- Masking of a payload by a key of four bytes: RFC 6455 section 5.3.
use Rattle.std.specs.Prelude.{◌≡◌, ℕ, ◌+◌, ◌%◌, ◌<◌, List, [], ◌∷◌, length, slice_index, bit_xor, Option, None, Some}

-- each byte is xored with the key byte of its place in the payload, counted from the phase
pub record IsMasked (key : List ℕ) (phase : ℕ) (old new : List ℕ) : Type 0 where
  pub len : length new ≡ length old
  pub bytes : (i : ℕ) → i < length old →
      slice_index new i ≡ bit_xor (slice_index old i) (slice_index key ((phase + i) % 4))

-- the one list that is so masked
abbrev pub masked : List ℕ → ℕ → List ℕ → List ℕ
masked key phase [] = []
masked key phase (b ∷ bytes) = bit_xor b (slice_index key (phase % 4)) ∷ masked key (phase + 1) bytes

-- a payload as it goes over the wire, masked from its first byte on where there is a key
abbrev pub masked_payload : Option (List ℕ) → List ℕ → List ℕ
masked_payload None payload = payload
masked_payload (Some key) payload = masked key 0 payload

-- ---- by lanes

-- the key's bytes over the lanes of a vector, the first at this phase
abbrev pub AreKeyLanes : List ℕ → ℕ → List ℕ → Type 0
AreKeyLanes key phase lanes =
    (i : ℕ) → i < length lanes → slice_index lanes i ≡ slice_index key ((phase + i) % 4)
