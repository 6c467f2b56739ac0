-- The steps of `show`, for the contracts of its private functions. A reader may skip this file: no public contract
-- speaks of it.
use Rattle.std.specs.Prelude.{◌⊎◌, ◌≡◌, ℕ, ◌+◌, ◌^◌, ◌≤◌, ◌<◌, Bool, true, false, ⊤}
use Rattle.std.specs.Prelude.{List, [], ◌∷◌, ◌++◌, length, take, Option, Some, None, Result, Ok, Err}
use Rattle.std.specs.List.{flat_map, AllByRecursion}
use Rattle.ws_frame.specs.declared.source.DataStyle.TheVariants.{Hex}
use Rattle.ws_frame.specs.declared.source.Source.{Source}
use Rattle.ws_frame.specs.declared.showing.StreamEnd.{StreamEnd}
use Rattle.ws_frame.specs.declared.showing.StreamEnd.TheVariants as end
use Rattle.ws_frame.specs.declared.showing.ShowEnd.{ShowEnd}
use Rattle.ws_frame.specs.declared.showing.ShowEnd.TheVariants as show_end
use Rattle.ws_frame.specs.declared.showing.PieceEnd.{PieceEnd}
use Rattle.ws_frame.specs.declared.showing.PieceEnd.TheVariants as piece_end
use Rattle.ws_frame.specs.declared.showing.Run.{Run}
use Rattle.ws_frame.specs.declared.partial.Partial.{Partial}
use Rattle.ws_frame.specs.declared.partial.Taken.{Taken}
use Rattle.ws_frame.specs.declared.partial.Taken.TheVariants.{Part, Whole, BadLength}
use Rattle.ws_frame.specs.declared.writing_whole.WriteFault.{WriteFault}
use Rattle.ws_wire.specs.Header.{AreBytes, HeaderFields, IsHeader, header_bytes}
use Rattle.ws_wire.specs.Masking.{masked_payload}
use Rattle.ws_wire.specs.Frame.{WireFrame, IsWireFrame, wire_bytes}
use Rattle.ws_wire.specs.Stream.{SplitsIntoAnyForm}
use Rattle.ws_wire.specs.Reading.{BeginsNoHeader, BeginsBadLength}
use Rattle.ws_frame.specs.Devices.{Device, HasWritten}
use Rattle.ws_frame.specs.Lines.{Leaves, frame_lines, last_line, AreLinesOf, AreFrameLinesOf}

-- ---- the frame under way

-- a header, and part of the payload on the wire, of which the first sixteen bytes are kept
pub record IsPartOfPayload (rest : List ℕ) (header : HeaderFields) (first : List ℕ) (to_come : ℕ) : Type 0 where
  pub fields : IsHeader header
  pub small : header.len < 2 ^ 63
  pub payload : List ℕ
  pub parts : rest ≡ header_bytes header ++ payload
  pub kept : first ≡ take 16 payload
  pub count : length payload + to_come ≡ header.len
  pub some : 0 < to_come

-- these bytes, less than a frame, are kept: less than a header as they are, or a header and part of a payload
abbrev pub IsKeptAs : List ℕ → Option HeaderFields → List ℕ → ℕ → Type 0
IsKeptAs rest None first to_come = (rest ≡ first) × BeginsNoHeader first
IsKeptAs rest (Some header) first to_come = IsPartOfPayload rest header first to_come

-- these bytes are the partial frame that is kept
abbrev pub IsPartialFrame : List ℕ → Partial → Type 0
IsPartialFrame rest partial = IsKeptAs rest partial.header partial.first partial.to_come

-- some bytes are
abbrev pub KeepsPartialFrame : Partial → Type 0
KeepsPartialFrame partial = (rest : List ℕ) × AreBytes rest × IsPartialFrame rest partial

-- the bytes are a frame's, with this header and these first bytes of the payload on the wire
pub record IsWhole (bytes : List ℕ) (header : HeaderFields) (first : List ℕ) : Type 0 where
  pub frame : WireFrame
  pub is_wire : IsWireFrame frame
  pub header_is : frame.header ≡ header
  pub bytes_are : bytes ≡ wire_bytes frame
  pub first_are : first ≡ take 16 (masked_payload header.key frame.payload)

-- at least one byte of the piece was used, and no more than there are
abbrev pub UsesSome : List ℕ → Taken → Type 0
UsesSome piece (Part used) = (0 < used) × (used ≤ length piece)
UsesSome piece (Whole header first used) = (0 < used) × (used ≤ length piece)
UsesSome piece BadLength = ⊤

-- what came of a piece behind the bytes that were kept
abbrev pub IsTaken : List ℕ → List ℕ → Partial → Taken → Type 0
IsTaken rest piece new (Part used) = IsPartialFrame (rest ++ take used piece) new
IsTaken rest piece new (Whole header first used) =
    IsWhole (rest ++ take used piece) header first × IsPartialFrame [] new
IsTaken rest piece new BadLength = BeginsBadLength (rest ++ piece)

-- what a call does with a piece, whatever bytes are kept
abbrev pub TakesPart : Partial → Partial → List ℕ → Taken → Type 0
TakesPart old new piece result =
    (rest : List ℕ) → AreBytes rest → IsPartialFrame rest old → IsTaken rest piece new result

-- a header is whole, and with it a frame without a payload
abbrev pub BeginsPayload : HeaderFields → ℕ → Partial → Taken → Type 0
BeginsPayload header used new (Part count) = (count ≡ used) × (new.header ≡ Some header) × (new.first ≡ [])
    × (new.to_come ≡ header.len) × (0 < header.len)
BeginsPayload header used new (Whole of first count) = (count ≡ used) × (of ≡ header) × (first ≡ [])
    × (header.len ≡ 0) × IsPartialFrame [] new
BeginsPayload header used new BadLength = ⊥

-- ---- a run

-- what was read are whole frames, whose lines these are, and less than a frame, which is kept and begins at this place.
-- Payloads are shown by their first bytes, as digits.
pub record AreLinesSoFar (source : Source) (read : List ℕ) (offset : ℕ) (partial : Partial) (lines : List ℕ)
    : Type 0 where
  pub digits : source.style ≡ Hex
  pub are_bytes : AreBytes read
  pub frames : List WireFrame
  pub rest : List ℕ
  pub each : AllByRecursion IsWireFrame frames
  pub parts : read ≡ flat_map wire_bytes frames ++ rest
  pub place : offset ≡ length (flat_map wire_bytes frames)
  pub are_lines : lines ≡ frame_lines source 0 frames
  pub is_kept : IsPartialFrame rest partial

-- a run that has taken these bytes: their lines were written or wait
pub record HasTold (run : Run) (taken written : List ℕ) : Type 0 where
  pub count : run.taken ≡ length taken
  pub so_far : AreLinesSoFar run.source taken run.offset run.partial (written ++ run.lines)

-- some bytes were taken so, and more can be
abbrev pub CanShowMore : Run → Type 0
CanShowMore run = (taken : List ℕ) × (written : List ℕ) × HasTold run taken written

-- these lines of the whole frames were written, and this is left
pub record IsLeft (source : Source) (bytes : List ℕ) (left : StreamEnd) (written : List ℕ) : Type 0 where
  pub frames : List WireFrame
  pub rest : List ℕ
  pub split : SplitsIntoAnyForm bytes frames rest
  pub leaves : Leaves left (length (flat_map wire_bytes frames)) rest
  pub all : written ≡ frame_lines source 0 frames

-- a beginning of the lines of a stream that may go on: of those of its whole frames, and that of a bad length
pub record BeginsLines (source : Source) (bytes front : List ℕ) : Type 0 where
  pub lines : List ℕ
  pub more : List ℕ
  pub are : AreFrameLinesOf source bytes lines ⊎ ((place : ℕ) × AreLinesOf source bytes (end.BadLengthAt place) lines)
  pub begins : lines ≡ front ++ more

-- what came of the next part of a piece: so many bytes were taken; or a bad length stands there; or a beginning of the
-- lines was written
abbrev pub IsNext : Run → List ℕ → List ℕ → List ℕ → Bool → Result (Option ℕ) WriteFault → Type 0
IsNext new taken piece written failed (Ok (Some used)) =
    (failed ≡ false) × HasTold new (taken ++ take used piece) written
IsNext new taken piece written failed (Ok None) =
    (failed ≡ false) × IsLeft new.source (taken ++ piece) (end.BadLengthAt new.offset) (written ++ new.lines)
IsNext new taken piece written failed (Err _) = (failed ≡ true) × BeginsLines new.source (taken ++ piece) written

abbrev pub ShowsNext : Run → Run → List ℕ → Device → Result (Option ℕ) WriteFault → Type 0
ShowsNext old new piece output result = (taken : List ℕ) (written : List ℕ) → HasTold old taken written
    → (more : List ℕ) × HasWritten more output × IsNext new taken piece (written ++ more) output.failed result

-- what came of a piece: all its lines were written, and the run goes on or stops at a bad length; or a beginning of
-- them was
abbrev pub IsShown : Run → List ℕ → List ℕ → Bool → Result PieceEnd WriteFault → Type 0
IsShown new taken written failed (Ok piece_end.Inside) =
    (failed ≡ false) × (new.lines ≡ []) × HasTold new taken written
IsShown new taken written failed (Ok piece_end.BadLength) =
    (failed ≡ false) × (new.lines ≡ []) × IsLeft new.source taken (end.BadLengthAt new.offset) written
IsShown new taken written failed (Err _) = (failed ≡ true) × BeginsLines new.source taken written

abbrev pub ShowsPiece : Run → Run → List ℕ → Device → Result PieceEnd WriteFault → Type 0
ShowsPiece old new piece output result = (taken : List ℕ) (written : List ℕ) → HasTold old taken written
    → (more : List ℕ) × HasWritten more output × IsShown new (taken ++ piece) (written ++ more) output.failed result

-- what came of one more byte: the line of the frame that it completes waits, or a bad length stands there and none does
abbrev pub IsByteTaken : Run → List ℕ → List ℕ → PieceEnd → Type 0
IsByteTaken new taken written piece_end.Inside = HasTold new taken written
IsByteTaken new taken written piece_end.BadLength =
    (new.lines ≡ []) × IsLeft new.source taken (end.BadLengthAt new.offset) written

abbrev pub TakesByte : Run → Run → ℕ → PieceEnd → Type 0
TakesByte old new byte result = (taken : List ℕ) (written : List ℕ) → HasTold old taken written
    → IsByteTaken new (taken ++ byte ∷ []) written result

-- ---- writing

-- of the bytes that are due some were written and these wait; or a beginning was written
abbrev pub WritesSome : List ℕ → List ℕ → Device → Result (Unit {0}) WriteFault → Type 0
WritesSome due waiting output (Ok _) =
    (written : List ℕ) × HasWritten written output × (output.failed ≡ false) × (due ≡ written ++ waiting)
WritesSome due waiting output (Err _) =
    (front : List ℕ) × (more : List ℕ) × HasWritten front output × (output.failed ≡ true) × (due ≡ front ++ more)

-- how a run ends that has written all lines of a stream that ends so
abbrev pub run_end : StreamEnd → ShowEnd
run_end end.Whole = show_end.Done
run_end (end.CutAt place) = show_end.CutAt place
run_end (end.BadLengthAt place) = show_end.BadLengthAt place

-- the line for this end of the stream was written; or a beginning of it
abbrev pub EndsWith : Source → StreamEnd → Device → ShowEnd → Type 0
EndsWith source last output result =
    ((result ≡ run_end last) × HasWritten (last_line source last) output × (output.failed ≡ false))
    ⊎ ((result ≡ show_end.WriteFault) × (output.failed ≡ true)
    × ((front : List ℕ) × (more : List ℕ) × HasWritten front output × (last_line source last ≡ front ++ more)))
