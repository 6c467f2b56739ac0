-- Inside the crate: what a line makes of what was read of a capture, and the parts of a written capture, as they are
-- printed. A reader may skip this file.
use Rattle.std.specs.Prelude.{◌≡◌, if◌then◌else◌, ⊤, ℕ, List, [], ◌∷◌, ◌++◌, map, flat_map, codes}
use Rattle.std.specs.Prelude.{Bool, Option, Some, None, Result, Ok, Err, refl}
use Rattle.std.specs.Borrow.{Bor}
use Rattle.std.specs.List.{AllByRecursion}
use Rattle.ws_formats.specs.Lines.{CanBeTold}
use Rattle.ws_base.specs.declared.text_fault.LineFault.{LineFault}
use Rattle.ws_base.specs.declared.text_fault.LineFault.TheVariants.{Damaged}
use Rattle.ws_formats.proofs.LetterLines.{line_by}
use Rattle.ws_scripts.specs.declared.transcript.Turn.{Turn}
use Rattle.ws_scripts.specs.declared.transcript.Ended.{Ended}
use Rattle.ws_scripts.specs.declared.transcript.Ended.TheVariants.{Tester, Peer, Broken}
use Rattle.ws_scripts.specs.declared.transcript.Transcript.{Transcript}
use Rattle.ws_scripts.specs.declared.capture.Capture.{Capture}
use Rattle.ws_scripts.specs.declared.capture.line.Format.{Format}
use Rattle.ws_scripts.specs.declared.capture.line.Format.TheVariants.{One, Two}
use Rattle.ws_scripts.specs.declared.capture.line.Line.{Line}
use Rattle.ws_scripts.specs.declared.capture.line.Line.TheVariants.{Sent, Got}
use Rattle.ws_scripts.specs.declared.capture.line.CaptureLine.{CaptureLine}
use Rattle.ws_scripts.specs.declared.capture.line.CaptureLine.TheVariants.{First, Key, Begin, Data, End}
use Rattle.ws_scripts.specs.declared.capture.reading.OpenTurns.{OpenTurns}
use Rattle.ws_scripts.specs.declared.capture.reading.PartialCapture.{PartialCapture}
use Rattle.ws_scripts.specs.declared.capture.reading.PartialCapture.TheVariants.{Nothing, FirstOfTwo, Turns, Whole}
use Rattle.ws_scripts.specs.CaptureLines.{HasWords, line_words}
use Rattle.ws_scripts.specs.Captures.{end_as_read}
use Rattle.ws_scripts.specs.Scripts.{has_any}

-- ---- reading

-- the line has neither bytes nor a key
abbrev pub IsWithoutBytes : CaptureLine (List ℕ) → Type 0
IsWithoutBytes (First format) = ⊤
IsWithoutBytes (Key None) = ⊤
IsWithoutBytes (Key (Some key)) = ⊥
IsWithoutBytes Begin = ⊤
IsWithoutBytes (Data line) = ⊥
IsWithoutBytes (End end) = ⊤

abbrev pub open_turns : List Turn → List ℕ → List ℕ → OpenTurns
open_turns done sent got = record { done = done; last = Some (record { sent = sent; got = got }) }

abbrev pub no_turns : OpenTurns
no_turns = record { done = []; last = None }

abbrev pub with_last : List Turn → Option Turn → List Turn
with_last done None = done
with_last done (Some turn) = done ++ turn ∷ []

-- all of them
abbrev pub all_turns : OpenTurns → List Turn
all_turns turns = with_last turns.done turns.last

-- in format 1 a line with bytes belongs to the last turn, but one of what was sent after something was got begins a
-- turn, as the first line does
abbrev pub line_in_1 : List Turn → Option Turn → Line (List ℕ) → OpenTurns
line_in_1 done None (Sent bytes) = open_turns done bytes []
line_in_1 done None (Got bytes) = open_turns done [] bytes
line_in_1 done (Some turn) (Sent bytes) =
    if has_any turn.got then open_turns (done ++ turn ∷ []) bytes [] else open_turns done (turn.sent ++ bytes) turn.got
line_in_1 done (Some turn) (Got bytes) = open_turns done turn.sent (turn.got ++ bytes)

-- in format 2 a line with bytes belongs to the last turn, where each direction has one and what was sent stands first
abbrev pub line_in_2 : List Turn → Option Turn → Line (List ℕ) → Option OpenTurns
line_in_2 done None line = None
line_in_2 done (Some turn) (Sent bytes) =
    if has_any turn.got then None else (if has_any turn.sent then None else Some (open_turns done bytes turn.got))
line_in_2 done (Some turn) (Got bytes) = if has_any turn.got then None else Some (open_turns done turn.sent bytes)

abbrev pub data_in : Format → OpenTurns → Line (List ℕ) → Option OpenTurns
data_in One turns line = Some (line_in_1 turns.done turns.last line)
data_in Two turns line = line_in_2 turns.done turns.last line

-- a turn begins, which format 1 has no line for
abbrev pub begun_in : Format → OpenTurns → Option OpenTurns
begun_in One turns = None
begun_in Two turns = Some (open_turns (all_turns turns) [] [])

-- how the connection ended, which in format 1 isn't that it broke
abbrev pub end_in : Format → Ended → Option Ended
end_in Two end = Some end
end_in One Tester = Some Tester
end_in One Peer = Some Peer
end_in One Broken = None

abbrev pub turns_then : Format → Option (List ℕ) → Option OpenTurns → Option PartialCapture
turns_then format key None = None
turns_then format key (Some turns) = Some (Turns format key turns)

abbrev pub capture_of : Option (List ℕ) → List Turn → Ended → Capture
capture_of key turns end = record { key = key; transcript = record { turns = turns; ended = end } }

abbrev pub ended_then : Option (List ℕ) → List Turn → Option Ended → Option PartialCapture
ended_then key turns None = None
ended_then key turns (Some end) = Some (Whole (capture_of key turns end))

-- what a line of the turns makes of what was read, where it may stand there
abbrev pub turns_with : Format → Option (List ℕ) → OpenTurns → CaptureLine (List ℕ) → Option PartialCapture
turns_with format key turns (First other) = None
turns_with format key turns (Key other) = None
turns_with format key turns Begin = turns_then format key (begun_in format turns)
turns_with format key turns (Data line) = turns_then format key (data_in format turns line)
turns_with format key turns (End end) = ended_then key (all_turns turns) (end_in format end)

-- the first line tells the format, where both are read
abbrev pub first_with : Bool → CaptureLine (List ℕ) → Option PartialCapture
first_with both (First One) = Some (Turns One None no_turns)
first_with both (First Two) = if both then Some FirstOfTwo else None
first_with both (Key key) = None
first_with both Begin = None
first_with both (Data line) = None
first_with both (End end) = None

abbrev pub second_with : CaptureLine (List ℕ) → Option PartialCapture
second_with (Key key) = Some (Turns Two key no_turns)
second_with (First format) = None
second_with Begin = None
second_with (Data line) = None
second_with (End end) = None

-- what a line makes of what was read, where it may stand there
abbrev pub part_with : PartialCapture → CaptureLine (List ℕ) → Option PartialCapture
part_with (Nothing both) line = first_with both line
part_with FirstOfTwo line = second_with line
part_with (Turns format key turns) line = turns_with format key turns line
part_with (Whole capture) line = None

abbrev pub maybe_with : Option PartialCapture → CaptureLine (List ℕ) → Option PartialCapture
maybe_with None line = None
maybe_with (Some part) line = part_with part line

-- what lines make of it
abbrev pub read_of : List (CaptureLine (List ℕ)) → Option PartialCapture → Option PartialCapture
read_of [] part = part
read_of (line ∷ lines) part = read_of lines (maybe_with part line)

-- with lines of these words after what was read, the whole capture is read
abbrev pub TellCapture : PartialCapture → Capture → List (List ℕ) → Type 0
TellCapture part capture words = (lines : List (CaptureLine (List ℕ))) × AllByRecursion HasWords lines
    × (words ≡ map line_words lines) × (read_of lines (Some part) ≡ Some (Whole capture))

-- what was read of a capture begins some capture
pub capture_goes_on : (part : PartialCapture) → CanBeTold (TellCapture part)
capture_goes_on (Nothing both) = (
  capture_of None [] Peer,
  codes "wst-capture 1" ∷ codes "end peer" ∷ [],
  (line_by (codes "wst-capture 1") refl, (line_by (codes "end peer") refl, tt)),
  (First One ∷ End Peer ∷ [], (tt, (tt, tt)), refl, refl),
)
capture_goes_on FirstOfTwo = (
  capture_of None [] Peer,
  codes "key -" ∷ codes "end peer" ∷ [],
  (line_by (codes "key -") refl, (line_by (codes "end peer") refl, tt)),
  (Key None ∷ End Peer ∷ [], (tt, (tt, tt)), refl, refl),
)
capture_goes_on (Turns One key turns) = (
  capture_of key (all_turns turns) Peer,
  codes "end peer" ∷ [],
  (line_by (codes "end peer") refl, tt),
  (End Peer ∷ [], (tt, tt), refl, refl),
)
capture_goes_on (Turns Two key turns) = (
  capture_of key (all_turns turns) Peer,
  codes "end peer" ∷ [],
  (line_by (codes "end peer") refl, tt),
  (End Peer ∷ [], (tt, tt), refl, refl),
)
capture_goes_on (Whole capture) = (capture, [], tt, ([], tt, refl, refl))

-- what adding a line answers: this, or that the line may not stand there, or that memory ran out
abbrev pub Adds : {T : Type 0} → Option T → Result T LineFault → Type 0
Adds added (Ok part) = added ≡ Some part
Adds added (Err fault) = fault ≡ Damaged → added ≡ None

-- ---- printing

abbrev pub line_now : Line (Bor (List ℕ)) → Line (List ℕ)
line_now (Sent bytes) = Sent bytes.now
line_now (Got bytes) = Got bytes.now

abbrev pub capture_line_now : CaptureLine (Bor (List ℕ)) → CaptureLine (List ℕ)
capture_line_now (First format) = First format
capture_line_now (Key key) = Key key
capture_line_now Begin = Begin
capture_line_now (Data line) = Data (line_now line)
capture_line_now (End end) = End end

-- a line with its LF
abbrev pub line_text : CaptureLine (List ℕ) → List ℕ
line_text line = line_words line ++ 10 ∷ []

-- the line of bytes, if there are any
abbrev pub text_if_any : (List ℕ → Line (List ℕ)) → List ℕ → List ℕ
text_if_any line [] = []
text_if_any line (byte ∷ bytes) = line_text (Data (line (byte ∷ bytes)))

abbrev pub begin_text : Format → List ℕ
begin_text One = []
begin_text Two = codes "turn\n"

abbrev pub turn_text : Format → Turn → List ℕ
turn_text format turn = begin_text format ++ (text_if_any Sent turn.sent ++ text_if_any Got turn.got)

abbrev pub head_text : Format → Option (List ℕ) → List ℕ
head_text One key = line_text (First One)
head_text Two key = line_text (First Two) ++ line_text (Key key)

abbrev pub written_end : Format → Ended → Ended
written_end One end = end_as_read end
written_end Two end = end

abbrev pub capture_text : Format → Option (List ℕ) → Transcript → List ℕ
capture_text format key transcript = head_text format key
    ++ (flat_map (turn_text format) transcript.turns ++ line_text (End (written_end format transcript.ended)))
