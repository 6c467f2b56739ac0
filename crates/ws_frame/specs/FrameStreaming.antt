-- The lines of a stream that comes piece by piece, with payloads in any style (RFC 6455 section 5.2), and what each
-- call writes of them.
use Rattle.std.specs.Prelude.{◌≡◌, ◌<◌, ◌≤◌, ◌+◌, ◌^◌, ℕ, Bool, true, false, List, ◌++◌, length, None, Result, Ok}
use Rattle.std.specs.Prelude.{Err, ⊤}
use Rattle.std.specs.List.{flat_map}
use Rattle.ws_wire.specs.Frame.{WireFrame, wire_bytes}
use Rattle.ws_wire.specs.Header.{AreBytes}
use Rattle.ws_wire.specs.Stream.{SplitsIntoAnyForm}
use Rattle.ws_frame.specs.declared.source.DataStyle.{DataStyle}
use Rattle.ws_frame.specs.declared.source.Source.{Source}
use Rattle.ws_frame.specs.declared.payload_lines.PayloadLines.{PayloadLines}
use Rattle.ws_frame.specs.declared.frame_lines.FrameLines.{FrameLines}
use Rattle.ws_frame.specs.declared.frame_lines.FrameLines.TheVariants.{Digits, Whole}
use Rattle.ws_frame.specs.declared.show_fault.ShowFault.{ShowFault}
use Rattle.ws_frame.specs.declared.show_fault.ShowFault.TheVariants.{Write, NoMemory}
use Rattle.ws_frame.specs.declared.writing_whole.WriteFault.{WriteFault}
use Rattle.ws_frame.specs.Devices.{Device, HasWritten}
use Rattle.ws_frame.specs.Lines.{AreCertainLines, takes_memory}
use Rattle.ws_frame.specs.InnerShowing.{BeginsLines}
use Rattle.ws_frame.specs.Streaming.{HasShown, ShowsLast, source_of}
use Rattle.ws_frame.specs.PayloadStreaming.{HasPutLines, stream_source}

-- whose stream it is
abbrev pub frames_source : FrameLines → Source
frames_source (Digits lines) = source_of lines
frames_source (Whole lines) = stream_source lines

-- whether a frame is kept until it is whole, for which memory is taken
abbrev pub keeps_frames : FrameLines → Bool
keeps_frames (Digits lines) = false
keeps_frames (Whole lines) = true

-- where it stands, by how its lines are made
abbrev pub StandsEitherWay : FrameLines → List ℕ → List ℕ → Type 0
StandsEitherWay (Digits lines) taken written = HasShown lines taken written
StandsEitherWay (Whole lines) taken written = HasPutLines lines taken written

-- these bytes of the stream have come, and these lines were written: all that are certain
pub record HasTakenFrames (stream : FrameLines) (taken written : List ℕ) : Type 0 where
  pub certain : AreCertainLines (frames_source stream) taken written
  pub are_bytes : AreBytes taken
  pub stands : StandsEitherWay stream taken written

-- some bytes of it have come so, and it may end there
abbrev pub CanEndFrames : FrameLines → Type 0
CanEndFrames stream = (taken : List ℕ) × (written : List ℕ) × HasTakenFrames stream taken written

-- so many bytes can still come: a place is told by 64 bits
abbrev pub HasRoomForFrames : ℕ → FrameLines → Type 0
HasRoomForFrames count stream =
    (taken : List ℕ) × (written : List ℕ) × HasTakenFrames stream taken written × (length taken + count < 2 ^ 64)

-- whether it was a write that failed
abbrev pub is_of_a_write : ShowFault → Bool
is_of_a_write Write = true
is_of_a_write NoMemory = false

-- lines in this style may end so: only those that take memory can lack it
abbrev pub MayEndBy : DataStyle → ShowFault → Type 0
MayEndBy style Write = ⊤
MayEndBy style NoMemory = takes_memory style ≡ true

-- what came of more bytes: all lines that are certain then were written; or a beginning of them, since a write failed
-- or memory ran out
abbrev pub IsTakenMore : FrameLines → List ℕ → List ℕ → Bool → Result (Unit {0}) ShowFault → Type 0
IsTakenMore new taken written failed (Ok _) = (failed ≡ false) × HasTakenFrames new taken written
IsTakenMore new taken written failed (Err fault) =
    (failed ≡ is_of_a_write fault) × BeginsLines (frames_source new) taken written

abbrev pub TakesMore : FrameLines → FrameLines → List ℕ → Device → Result (Unit {0}) ShowFault → Type 0
TakesMore old new piece output result = (taken : List ℕ) (written : List ℕ) → HasTakenFrames old taken written
    → (more : List ℕ) × HasWritten more output × IsTakenMore new (taken ++ piece) (written ++ more) output.failed result

-- the whole frames of these bytes end at this place or in front of it
abbrev pub EndBy : List ℕ → ℕ → Type 0
EndBy bytes place = (frames : List WireFrame) (rest : List ℕ) → SplitsIntoAnyForm bytes frames rest
    → length (flat_map wire_bytes frames) ≤ place

-- of a stream without a mark the frame at this place is marked: while its line isn't written, all stands as before
abbrev pub MarksAhead : FrameLines → FrameLines → ℕ → Type 0
MarksAhead old new place = (frames_source old).fault ≡ None
    → (taken : List ℕ) (written : List ℕ) → HasTakenFrames old taken written → EndBy taken place
    → HasTakenFrames new taken written

-- the last line of the stream was written; or a beginning of it
abbrev pub EndsFrames : FrameLines → Device → Result (Unit {0}) WriteFault → Type 0
EndsFrames stream output result = (taken : List ℕ) (written : List ℕ) → HasTakenFrames stream taken written
    → ShowsLast (frames_source stream) taken written output result

-- ---- by whole payloads

abbrev pub IsWrittenMore : PayloadLines → List ℕ → List ℕ → Bool → Result (Unit {0}) ShowFault → Type 0
IsWrittenMore new taken written failed (Ok _) = (failed ≡ false) × HasPutLines new taken written
IsWrittenMore new taken written failed (Err fault) =
    (failed ≡ is_of_a_write fault) × BeginsLines (stream_source new) taken written

abbrev pub WritesMore : PayloadLines → PayloadLines → List ℕ → Device → Result (Unit {0}) ShowFault → Type 0
WritesMore old new piece output result = (taken : List ℕ) (written : List ℕ) → HasPutLines old taken written
    → (more : List ℕ) × HasWritten more output
    × IsWrittenMore new (taken ++ piece) (written ++ more) output.failed result
