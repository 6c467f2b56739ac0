-- Lines each of which stands behind a time.
use Rattle.std.specs.Prelude.{◌≡◌, ◌≢◌, ℕ, ◌==◌, ◌&&◌, ◌||◌, nat_le, if◌then◌else◌, Bool, true, false, List, []}
use Rattle.std.specs.Prelude.{◌∷◌, ◌++◌, Option, Some, None}
use Rattle.wst_noted.specs.declared.timed_writer.TimedWriter.{TimedWriter}

-- where a byte of timed lines stands: in the time of a line, or in the line; or there is a line without a time
pub data LinePlace : Type 0 where
  InTime : LinePlace
  InLine : LinePlace
  Astray : LinePlace

-- whether it is a byte of a time: a digit, or the point
abbrev pub is_of_time : ℕ → Bool
is_of_time byte = (nat_le 48 byte && nat_le byte 57) || (byte == 46)

-- the place behind a byte: a space ends the time, and LF the line
abbrev pub next_place : LinePlace → ℕ → LinePlace
next_place InTime byte = if is_of_time byte then InTime else (if byte == 32 then InLine else Astray)
next_place InLine byte = if byte == 10 then InTime else InLine
next_place Astray byte = Astray

-- the place behind some bytes
abbrev pub place_behind : LinePlace → List ℕ → LinePlace
place_behind place [] = place
place_behind place (byte ∷ more) = place_behind (next_place place byte) more

-- the bytes without those of times
abbrev pub without_times : LinePlace → List ℕ → List ℕ
without_times place [] = []
without_times InTime (byte ∷ more) = without_times (next_place InTime byte) more
without_times InLine (byte ∷ more) = byte ∷ without_times (next_place InLine byte) more
without_times Astray (byte ∷ more) = []

-- lines, if their bytes end in a line or not
abbrev pub timed_lines_at : Bool → LinePlace → List ℕ → Option (List ℕ)
timed_lines_at true InLine lines = Some lines
timed_lines_at false InTime lines = Some lines
timed_lines_at _ _ lines = None

-- where a byte comes, if it is in a line or not
abbrev pub place_in : Bool → LinePlace
place_in true = InLine
place_in false = InTime

-- known bytes from this place on, without the times, if they end in a line or not
abbrev pub known_lines : LinePlace → Bool → Option (List ℕ) → Option (List ℕ)
known_lines first in_line None = None
known_lines first in_line (Some bytes) = timed_lines_at in_line (place_behind first bytes) (without_times first bytes)

-- the lines that were written, from this place on
abbrev pub timed_lines : {W K : Type 0} → LinePlace → (W → Option (List ℕ)) → TimedWriter W K → Option (List ℕ)
timed_lines first held output = known_lines first output.is_in_line (held output.writer)

-- these bytes from this place on are those lines, each behind a time: digits, a point and a space
abbrev pub AreTimed : LinePlace → List ℕ → List ℕ → Type 0
AreTimed first bytes lines = (place_behind first bytes ≢ Astray) × (without_times first bytes ≡ lines)

-- all are bytes of a time
abbrev pub are_of_time : List ℕ → Bool
are_of_time [] = true
are_of_time (byte ∷ more) = is_of_time byte && are_of_time more

-- these bytes are a time, with the space behind it
abbrev pub IsTime : List ℕ → Type 0
IsTime bytes = (time : List ℕ) × (bytes ≡ time ++ 32 ∷ []) × (are_of_time time ≡ true)

-- a text grew by a time, with the space behind it
abbrev pub GrowsByTime : List ℕ → List ℕ → Type 0
GrowsByTime old new = (time : List ℕ) × (new ≡ old ++ time) × IsTime time
