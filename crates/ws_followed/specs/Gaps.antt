-- What stands in a followed stream in place of bytes that were not captured: as a segment, the words
-- `[N bytes missing in capture file]` and a zero byte.
use Rattle.std.specs.Prelude.{◌≡◌, ◌≤◌, ℕ, ◌+◌, All, List, [], ◌∷◌, ◌++◌, length, take, codes, slice_get, Some, IsTrue}
use Rattle.std.specs.Char.{is_ascii_digit}
use Rattle.ws_followed.specs.declared.segment.Segment.{Segment}

-- digits, one at least
abbrev pub AreCountDigits : List ℕ → Type 0
AreCountDigits word = (1 ≤ length word) × All (λ byte. IsTrue (is_ascii_digit byte)) word

abbrev pub gap_end : List ℕ
gap_end = codes " bytes missing in capture file]\0"

abbrev pub IsGap : List ℕ → Type 0
IsGap bytes = (count : List ℕ) × AreCountDigits count × (bytes ≡ codes "[" ++ (count ++ gap_end))

abbrev pub IsNoGap : Segment → Type 0
IsNoGap segment = IsGap segment.bytes → ⊥

-- the segment at this place, counted from 0, is the first that stands for bytes that are missing
abbrev pub IsFirstGap : List Segment → ℕ → Type 0
IsFirstGap segments at =
    (gap : Segment) × (slice_get segments at ≡ Some gap) × IsGap gap.bytes × All IsNoGap (take at segments)

-- how many lines stand before those of the segments
abbrev pub lines_before : List (List ℕ) → ℕ
lines_before [] = 5
lines_before ([] ∷ lines) = 6
lines_before ((byte ∷ bytes) ∷ lines) = 5
