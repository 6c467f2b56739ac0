-- What the lines of a transcript are told by while it goes on, and what each call writes of them.
use Rattle.std.specs.Prelude.{◌≡◌, ◌<◌, ◌+◌, ◌^◌, ℕ, Bool, false, List, [], ◌∷◌, ◌++◌, length, None, Some, Result}
use Rattle.std.specs.Prelude.{Ok, Err}
use Rattle.std.specs.List.{AllByRecursion}
use Rattle.ws_lines.specs.declared.transcript_lines.Showing.{Showing}
use Rattle.ws_frame.specs.declared.show_fault.ShowFault.{ShowFault}
use Rattle.ws_frame.specs.declared.writing_whole.WriteFault.{WriteFault}
use Rattle.ws_frame.specs.Devices.{Device, HasWritten, HasBegun}
use Rattle.ws_frame.specs.FrameStreaming.{EndBy, HasTakenFrames, MayEndBy, frames_source, is_of_a_write}
use Rattle.ws_frame.specs.FrameStreaming.{keeps_frames}
use Rattle.ws_frame.specs.Lines.{takes_memory}
use Rattle.ws_frame.specs.Streaming.{WritesAll}
use Rattle.ws_scripts.specs.declared.transcript.Turn.{Turn}
use Rattle.ws_scripts.specs.declared.transcript.Ended.{Ended}
use Rattle.ws_scripts.specs.declared.transcript.Transcript.{Transcript}
use Rattle.ws_scripts.specs.Captures.{AreOfBytes}
use Rattle.ws_lines.specs.declared.transcript_lines.TranscriptLines.{TranscriptLines}
use Rattle.ws_frame.specs.declared.frame_lines.FrameLines.{FrameLines}
use Rattle.ws_lines.specs.TurnLines.{TurnLines, Direction, StandInTheirTurns, AreTurnLines, HasTurnLines}
use Rattle.ws_lines.specs.TurnLines.{bytes_in, lines_in, sent_by_tester, got_by_tester, turns_text}

-- a direction's lines in these turns stand in their turns, and its stream has shown them: whether frames are kept is by
-- the style
pub record IsToldIn (direction : Direction) (stream : FrameLines) (turns : List Turn) (lines : List TurnLines)
    : Type 0 where
  pub source : frames_source stream ≡ direction.source
  pub kept : keeps_frames stream ≡ takes_memory direction.source.style
  pub stand : StandInTheirTurns direction turns lines
  pub shown : HasTakenFrames stream (bytes_in direction turns) (lines_in direction lines)

-- these turns were told, of which the last may go on, and this text was written: their lines
pub record HasToldTurns (showing : Showing) (told : TranscriptLines) (turns : List Turn) (written : List ℕ)
    : Type 0 where
  pub lines : List TurnLines
  pub one_each : length lines ≡ length turns
  pub all : written ≡ turns_text 1 lines
  pub count : told.turns ≡ length turns
  pub sent : IsToldIn (sent_by_tester showing) told.sent turns lines
  pub got : IsToldIn (got_by_tester showing) told.got turns lines

-- shown so, but with the frame at this place marked, of those that the tester sent; or of those that it got
abbrev pub with_sent_fault : Showing → ℕ → Showing
with_sent_fault showing place = record showing { sent_fault = Some place }

abbrev pub with_got_fault : Showing → ℕ → Showing
with_got_fault showing place = record showing { got_fault = Some place }

-- of a direction without a mark the frame at this place is marked: while its line isn't written, all that was told
-- stays
abbrev pub MarksSent : TranscriptLines → TranscriptLines → ℕ → Type 0
MarksSent old new place = (showing : Showing) (turns : List Turn) (written : List ℕ) → showing.sent_fault ≡ None
    → HasToldTurns showing old turns written → EndBy (bytes_in (sent_by_tester showing) turns) place
    → HasToldTurns (with_sent_fault showing place) new turns written

abbrev pub MarksGot : TranscriptLines → TranscriptLines → ℕ → Type 0
MarksGot old new place = (showing : Showing) (turns : List Turn) (written : List ℕ) → showing.got_fault ≡ None
    → HasToldTurns showing old turns written → EndBy (bytes_in (got_by_tester showing) turns) place
    → HasToldTurns (with_got_fault showing place) new turns written

-- a turn can begin in which so many bytes are sent: places and numbers of turns are told by 64 bits
abbrev pub HasRoomForTurn : ℕ → TranscriptLines → Type 0
HasRoomForTurn count told = (showing : Showing) × (turns : List Turn) × (written : List ℕ)
    × HasToldTurns showing told turns written × (length (bytes_in (sent_by_tester showing) turns) + count < 2 ^ 64)
    × (length turns + 1 < 2 ^ 64)

-- so many bytes can be got
abbrev pub HasRoomForGot : ℕ → TranscriptLines → Type 0
HasRoomForGot count told = (showing : Showing) × (turns : List Turn) × (written : List ℕ)
    × HasToldTurns showing told turns written × (length (bytes_in (got_by_tester showing) turns) + count < 2 ^ 64)

-- some turns were told
abbrev pub CanEndLines : TranscriptLines → Type 0
CanEndLines told =
    (showing : Showing) × (turns : List Turn) × (written : List ℕ) × HasToldTurns showing told turns written

-- a beginning of the lines of these turns, which may go on
pub record BeginsTurns (showing : Showing) (turns : List Turn) (front : List ℕ) : Type 0 where
  pub lines : List TurnLines
  pub are_lines : AreTurnLines showing turns lines
  pub more : List ℕ
  pub begins : turns_text 1 lines ≡ front ++ more

-- what came of a call: all lines of these turns were written; or a beginning of them, since a write failed, or memory
-- ran out in a style that takes it
abbrev pub AreTold : Showing → TranscriptLines → List Turn → List ℕ → Bool → Result (Unit {0}) ShowFault → Type 0
AreTold showing told turns written failed (Ok _) = (failed ≡ false) × HasToldTurns showing told turns written
AreTold showing told turns written failed (Err fault) =
    (failed ≡ is_of_a_write fault) × BeginsTurns showing turns written × MayEndBy showing.style fault

-- a turn begins in which these bytes are sent, and nothing is got yet
abbrev pub begun_turn : List ℕ → Turn
begun_turn sent = record { sent = sent; got = [] }

abbrev pub TellsTurn : TranscriptLines → TranscriptLines → List ℕ → Device → Result (Unit {0}) ShowFault → Type 0
TellsTurn old new sent output result = (showing : Showing) (turns : List Turn) (written : List ℕ)
    → HasToldTurns showing old turns written → (more : List ℕ) × HasWritten more output
    × AreTold showing new (turns ++ begun_turn sent ∷ []) (written ++ more) output.failed result

-- in the last turn more bytes are got
abbrev pub with_got : Turn → List ℕ → Turn
with_got turn piece = record { sent = turn.sent; got = turn.got ++ piece }

abbrev pub TellsGot : TranscriptLines → TranscriptLines → List ℕ → Device → Result (Unit {0}) ShowFault → Type 0
TellsGot old new piece output result = (showing : Showing) (turns : List Turn) (turn : Turn) (written : List ℕ)
    → HasToldTurns showing old (turns ++ turn ∷ []) written → (more : List ℕ) × HasWritten more output
    × AreTold showing new (turns ++ with_got turn piece ∷ []) (written ++ more) output.failed result

-- where no turn has begun, the first begins, in which nothing is sent
abbrev pub got_first : List ℕ → Turn
got_first piece = with_got (begun_turn []) piece

abbrev pub TellsFirstGot : TranscriptLines → TranscriptLines → List ℕ → Device → Result (Unit {0}) ShowFault → Type 0
TellsFirstGot old new piece output result = (showing : Showing) (written : List ℕ)
    → HasToldTurns showing old [] written → (more : List ℕ) × HasWritten more output
    × AreTold showing new (got_first piece ∷ []) (written ++ more) output.failed result

-- the transcript has ended so: what is left of its lines was written; or a beginning of that
pub record TellsRest (showing : Showing) (transcript : Transcript) (written : List ℕ) (output : Device)
    (result : Result (Unit {0}) WriteFault) : Type 0 where
  pub last : List ℕ
  pub all : HasTurnLines showing transcript (written ++ last)
  pub writes : WritesAll last output result

abbrev pub TellsEnd : TranscriptLines → Ended → Device → Result (Unit {0}) WriteFault → Type 0
TellsEnd told ended output result = (showing : Showing) (turns : List Turn) (written : List ℕ)
    → HasToldTurns showing told turns written
    → TellsRest showing (record { turns = turns; ended = ended }) written output result

-- the text of lines of the transcript was written
abbrev pub HasWrittenLines : Showing → Transcript → Device → Type 0
HasWrittenLines showing transcript output =
    (text : List ℕ) × HasTurnLines showing transcript text × HasWritten text output

-- a beginning of the text of lines was written: a transcript holds bytes
abbrev pub HasBegunLines : Showing → Transcript → Device → Type 0
HasBegunLines showing transcript output = AllByRecursion AreOfBytes transcript.turns
    → (text : List ℕ) × HasTurnLines showing transcript text × HasBegun text output

-- whether a write failed
abbrev pub is_failed_write : Result (Unit {0}) ShowFault → Bool
is_failed_write (Ok _) = false
is_failed_write (Err fault) = is_of_a_write fault
