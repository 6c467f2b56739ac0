-- The lines of a transcript that goes on, in which that frame of either direction is marked whose payload is its first
-- violation.
use Rattle.std.specs.Prelude.{◌≡◌, ℕ, ◌+◌, ◌^◌, ◌<◌, false, List, [], ◌∷◌, ◌++◌, length, None, Result}
use Rattle.std.specs.List.{flat_map}
use Rattle.ws_frame.specs.Devices.{Device, HasWritten}
use Rattle.ws_frame.specs.declared.writing_whole.WriteFault.{WriteFault}
use Rattle.ws_scripts.specs.declared.transcript.Ended.{Ended}
use Rattle.ws_scripts.specs.declared.transcript.Turn.{Turn}
use Rattle.ws_scripts.specs.declared.transcript.Transcript.{Transcript}
use Rattle.ws_suite.specs.Evidence.{other_role}
use Rattle.ws_faults.specs.declared.marking.MarkedFrames.{MarkedFrames}
use Rattle.ws_faults.specs.Finding.{HasSearched}
use Rattle.ws_faults.specs.PayloadFaults.{AreMarkedFrames, IsMarkOf}
use Rattle.ws_lines.specs.Telling.{HasToldTurns, TellsRest, begun_turn, with_got}
use Rattle.ws_lines.specs.TurnLines.{HasTurnLines}
use Rattle.ws_lines.specs.declared.transcript_lines.Showing.{Showing}
use Rattle.ws_shown.specs.declared.places.Places.{Places}
use Rattle.ws_shown.specs.declared.marked_lines.MarkedLines.{MarkedLines}

-- all bytes that the tester sent in these turns, and all that it got
abbrev pub sent_over : List Turn → List ℕ
sent_over turns = flat_map (λ (turn : Turn). turn.sent) turns

abbrev pub got_over : List Turn → List ℕ
got_over turns = flat_map (λ (turn : Turn). turn.got) turns

-- shown so, with these frames marked
abbrev pub showing_with : Showing → MarkedFrames → Showing
showing_with showing marked = record showing { sent_fault = marked.sent; got_fault = marked.got }

-- ---- lines with marks

-- The lines of these turns were written. So many bytes of either direction were searched, and that frame is marked
-- whose payload is their first violation.
pub record HasSearchedTo (showing : Showing) (told : MarkedLines) (sent got : List ℕ) (turns : List Turn)
    (written : List ℕ) : Type 0 where
  pub sent_searched : HasSearched showing.tested told.sent sent
  pub got_searched : HasSearched (other_role showing.tested) told.got got
  pub sent_mark : IsMarkOf showing.tested sent told.marked.sent
  pub got_mark : IsMarkOf (other_role showing.tested) got told.marked.got
  pub lines : HasToldTurns (showing_with showing told.marked) told.lines turns written

-- all bytes of these turns were
abbrev pub HasToldMarked : Showing → MarkedLines → List Turn → List ℕ → Type 0
HasToldMarked showing told turns written =
    HasSearchedTo showing told (sent_over turns) (got_over turns) turns written

-- The lines of these turns were written, and no frame that the tester sent in them is marked; its next bytes, this
-- piece, were searched. So it is with what it gets.
pub record HasSentAhead (showing : Showing) (told : MarkedLines) (turns : List Turn) (written piece : List ℕ)
    : Type 0 where
  pub unmarked : told.marked.sent ≡ None
  pub none : IsMarkOf showing.tested (sent_over turns) None
  pub sent_searched : HasSearched showing.tested told.sent (sent_over turns ++ piece)
  pub got_searched : HasSearched (other_role showing.tested) told.got (got_over turns)
  pub got_mark : IsMarkOf (other_role showing.tested) (got_over turns) told.marked.got
  pub lines : HasToldTurns (showing_with showing told.marked) told.lines turns written

pub record HasGotAhead (showing : Showing) (told : MarkedLines) (turns : List Turn) (written piece : List ℕ)
    : Type 0 where
  pub unmarked : told.marked.got ≡ None
  pub none : IsMarkOf (other_role showing.tested) (got_over turns) None
  pub sent_searched : HasSearched showing.tested told.sent (sent_over turns)
  pub got_searched : HasSearched (other_role showing.tested) told.got (got_over turns ++ piece)
  pub sent_mark : IsMarkOf showing.tested (sent_over turns) told.marked.sent
  pub lines : HasToldTurns (showing_with showing told.marked) told.lines turns written

-- the frame that was found so, if there is one, is marked
abbrev pub MarksFoundSent : MarkedLines → MarkedLines → Type 0
MarksFoundSent old new = (showing : Showing) (turns : List Turn) (written piece : List ℕ)
    → HasSentAhead showing old turns written piece
    → HasSearchedTo showing new (sent_over turns ++ piece) (got_over turns) turns written

abbrev pub MarksFoundGot : MarkedLines → MarkedLines → Type 0
MarksFoundGot old new = (showing : Showing) (turns : List Turn) (written piece : List ℕ)
    → HasGotAhead showing old turns written piece
    → HasSearchedTo showing new (sent_over turns) (got_over turns ++ piece) turns written

-- bytes that come next are searched, and what is found is marked, before their lines are written
abbrev pub SearchesSent : MarkedLines → MarkedLines → List ℕ → Type 0
SearchesSent old new piece = (showing : Showing) (turns : List Turn) (written : List ℕ)
    → HasToldMarked showing old turns written
    → HasSearchedTo showing new (sent_over turns ++ piece) (got_over turns) turns written

abbrev pub SearchesGot : MarkedLines → MarkedLines → List ℕ → Type 0
SearchesGot old new piece = (showing : Showing) (turns : List Turn) (written : List ℕ)
    → HasToldMarked showing old turns written
    → HasSearchedTo showing new (sent_over turns) (got_over turns ++ piece) turns written

-- ---- calls

-- a turn can begin in which so many bytes are sent; so many can be got; some turns were told
abbrev pub HasRoomToBegin : ℕ → MarkedLines → Type 0
HasRoomToBegin count told = (showing : Showing) × (turns : List Turn) × (written : List ℕ)
    × HasToldMarked showing told turns written × (length (sent_over turns) + count < 2 ^ 64)
    × (length turns + 1 < 2 ^ 64)

abbrev pub HasRoomToGet : ℕ → MarkedLines → Type 0
HasRoomToGet count told = (showing : Showing) × (turns : List Turn) × (written : List ℕ)
    × HasToldMarked showing told turns written × (length (got_over turns) + count < 2 ^ 64)

abbrev pub IsOpenToEnd : MarkedLines → Type 0
IsOpenToEnd told =
    (showing : Showing) × (turns : List Turn) × (written : List ℕ) × HasToldMarked showing told turns written

-- more lines were written: with them these turns are told
abbrev pub HasToldMore : Showing → MarkedLines → List Turn → List ℕ → Device → Type 0
HasToldMore showing new turns written output = (more : List ℕ) × HasWritten more output × (output.failed ≡ false)
    × HasToldMarked showing new turns (written ++ more)

-- a turn began in which these bytes were sent
abbrev pub BeginsMarked : MarkedLines → MarkedLines → List ℕ → Device → Type 0
BeginsMarked old new sent output = (showing : Showing) (turns : List Turn) (written : List ℕ)
    → HasToldMarked showing old turns written → HasToldMore showing new (turns ++ begun_turn sent ∷ []) written output

-- in the last turn more bytes were got
abbrev pub GetsMarked : MarkedLines → MarkedLines → List ℕ → Device → Type 0
GetsMarked old new piece output = (showing : Showing) (turns : List Turn) (turn : Turn) (written : List ℕ)
    → HasToldMarked showing old (turns ++ turn ∷ []) written
    → HasToldMore showing new (turns ++ with_got turn piece ∷ []) written output

-- what is left of the lines of a transcript that ended so was written, or a beginning of it
pub record EndsWithMarks (showing : Showing) (transcript : Transcript) (written : List ℕ) (output : Device)
    (result : Result (Unit {0}) WriteFault) : Type 0 where
  pub marked : MarkedFrames
  pub are_marked : AreMarkedFrames showing.tested transcript marked
  pub rest : TellsRest (showing_with showing marked) transcript written output result

abbrev pub EndsMarked : MarkedLines → Ended → Device → Result (Unit {0}) WriteFault → Type 0
EndsMarked told ended output result = (showing : Showing) (turns : List Turn) (written : List ℕ)
    → HasToldMarked showing told turns written
    → EndsWithMarks showing (record { turns = turns; ended = ended }) written output result

-- ---- all of them

-- so many turns there are, and so many bytes were sent and got in them
pub record AreCounted (places : Places) (turns : List Turn) : Type 0 where
  pub turn_count : places.turns ≡ length turns
  pub sent_bytes : places.sent ≡ length (sent_over turns)
  pub got_bytes : places.got ≡ length (got_over turns)

-- The text is the lines of a transcript, in which that frame of either direction is marked whose payload is its first
-- violation: of the showing only the tested end and the style of payloads count.
abbrev pub AreMarkedLines : Showing → Transcript → List ℕ → Type 0
AreMarkedLines showing transcript text = (marked : MarkedFrames) × AreMarkedFrames showing.tested transcript marked
    × HasTurnLines (showing_with showing marked) transcript text
