-- The lines of a stream that comes piece by piece (RFC 6455 section 5.2), and what each call writes of them.
use Rattle.std.specs.Prelude.{◌≡◌, ◌<◌, ◌+◌, ◌^◌, ℕ, Bool, true, false, List, [], ◌∷◌, ◌++◌, length, Result, Ok, Err}
use Rattle.ws_wire.specs.Header.{AreBytes}
use Rattle.ws_frame.specs.declared.source.Source.{Source}
use Rattle.ws_frame.specs.declared.showing.StreamEnd.{StreamEnd}
use Rattle.ws_frame.specs.declared.showing.StreamEnd.TheVariants.{BadLengthAt}
use Rattle.ws_frame.specs.declared.showing.Run.{Run}
use Rattle.ws_frame.specs.declared.stream_lines.StreamLines.{StreamLines}
use Rattle.ws_frame.specs.declared.writing_whole.WriteFault.{WriteFault}
use Rattle.ws_frame.specs.Devices.{Device, HasWritten, HasBegun}
use Rattle.ws_frame.specs.Lines.{AreCertainLines, AreLinesOf}
use Rattle.ws_frame.specs.InnerShowing.{BeginsLines, HasTold}

-- whose stream it is
abbrev pub source_of : StreamLines → Source
source_of stream = stream.run.source

-- either more can be shown, and no line waits; or a bad length stands there
abbrev pub StandsAt : Run → Bool → List ℕ → List ℕ → Type 0
StandsAt run false taken written = (run.lines ≡ []) × HasTold run taken written
StandsAt run true taken written = (place : ℕ) × AreLinesOf run.source taken (BadLengthAt place) written

-- these bytes of the stream have come, and these lines were written: all that are certain
pub record HasShown (stream : StreamLines) (taken written : List ℕ) : Type 0 where
  pub certain : AreCertainLines stream.run.source taken written
  pub are_bytes : AreBytes taken
  pub stands : StandsAt stream.run stream.stopped taken written

-- some bytes of it have come so, and it may end there
abbrev pub CanEnd : StreamLines → Type 0
CanEnd stream = (taken : List ℕ) × (written : List ℕ) × HasShown stream taken written

-- so many bytes can still come: a place is told by 64 bits
abbrev pub HasRoomFor : ℕ → StreamLines → Type 0
HasRoomFor count stream =
    (taken : List ℕ) × (written : List ℕ) × HasShown stream taken written × (length taken + count < 2 ^ 64)

-- what came of more bytes: all lines that are certain then were written; or a beginning of them
abbrev pub IsShownMore : StreamLines → List ℕ → List ℕ → Bool → Result (Unit {0}) WriteFault → Type 0
IsShownMore new taken written failed (Ok _) = (failed ≡ false) × HasShown new taken written
IsShownMore new taken written failed (Err _) = (failed ≡ true) × BeginsLines new.run.source taken written

abbrev pub ShowsMore : StreamLines → StreamLines → List ℕ → Device → Result (Unit {0}) WriteFault → Type 0
ShowsMore old new piece output result = (taken : List ℕ) (written : List ℕ) → HasShown old taken written
    → (more : List ℕ) × HasWritten more output × IsShownMore new (taken ++ piece) (written ++ more) output.failed result

-- these bytes were written; or a beginning of them
abbrev pub WritesAll : List ℕ → Device → Result (Unit {0}) WriteFault → Type 0
WritesAll bytes output (Ok _) = HasWritten bytes output × (output.failed ≡ false)
WritesAll bytes output (Err _) = HasBegun bytes output × (output.failed ≡ true)

-- the last lines of the stream were written; or a beginning of them
pub record ShowsLast (source : Source) (taken written : List ℕ) (output : Device)
    (result : Result (Unit {0}) WriteFault) : Type 0 where
  pub end : StreamEnd
  pub last : List ℕ
  pub all : AreLinesOf source taken end (written ++ last)
  pub writes : WritesAll last output result

abbrev pub ShowsEnd : StreamLines → Device → Result (Unit {0}) WriteFault → Type 0
ShowsEnd stream output result = (taken : List ℕ) (written : List ℕ) → HasShown stream taken written
    → ShowsLast (source_of stream) taken written output result

-- what one more byte makes certain: with this line all lines are told that are certain then
abbrev pub ShowsByte : StreamLines → StreamLines → ℕ → List ℕ → Type 0
ShowsByte old new byte line = (taken : List ℕ) (written : List ℕ) → HasShown old taken written
    → HasShown new (taken ++ byte ∷ []) (written ++ line)

-- with this line all lines of the stream are told, if it ends here
abbrev pub EndsWithLine : StreamLines → List ℕ → Type 0
EndsWithLine stream line = (taken : List ℕ) (written : List ℕ) → HasShown stream taken written
    → (end : StreamEnd) × AreLinesOf (source_of stream) taken end (written ++ line)
