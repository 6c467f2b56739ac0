-- What a writer holds behind the lines of heads.
use Rattle.std.specs.Prelude.{◌≡◌, ℕ, ◌-◌, ◌≤◌, nat_le, if◌then◌else◌, List, ◌++◌, length, drop, Option, Some, None}
use Rattle.wst_noted.specs.declared.head_writer.HeadWriter.{HeadWriter}

-- the last so many bytes
abbrev pub last_bytes : ℕ → List ℕ → List ℕ
last_bytes count bytes = drop (length bytes - count) bytes

-- of known bytes the last so many, if there are as many
abbrev pub known_last : ℕ → Option (List ℕ) → Option (List ℕ)
known_last count None = None
known_last count (Some bytes) = if nat_le count (length bytes) then Some (last_bytes count bytes) else None

-- what was written behind the heads
abbrev pub behind_heads : {W K : Type 0} → (W → Option (List ℕ)) → HeadWriter W K → Option (List ℕ)
behind_heads held output = known_last output.written (held output.writer)

-- known bytes end with these
abbrev pub EndWith : List ℕ → Option (List ℕ) → Type 0
EndWith bytes held = (front : List ℕ) × (held ≡ Some (front ++ bytes))
