-- Captures: a transcript as lines of text, in format 1. Every line ends with LF.
use Rattle.std.specs.Prelude.{◌≡◌, ◌≢◌, ℕ, ◌<◌, ◌&&◌, if◌then◌else◌, ⊤, List, [], ◌∷◌, ◌++◌, length, map, flat_map}
use Rattle.std.specs.List.{AllByRecursion}
use Rattle.ws_base.specs.Bytes.{AreBytes}
use Rattle.ws_formats.specs.Lines.{IsDamagedAt, ended}
use Rattle.ws_scripts.specs.declared.transcript.Turn.{Turn}
use Rattle.ws_scripts.specs.declared.transcript.Ended.{Ended}
use Rattle.ws_scripts.specs.declared.transcript.Ended.TheVariants.{Tester, Peer, Broken}
use Rattle.ws_scripts.specs.declared.transcript.Transcript.{Transcript}
use Rattle.ws_scripts.specs.declared.capture.CaptureFault.{CaptureFault}
use Rattle.ws_scripts.specs.declared.capture.CaptureFault.TheVariants.{Damaged}
use Rattle.ws_scripts.specs.declared.capture.line.Format.TheVariants.{One}
use Rattle.ws_scripts.specs.declared.capture.line.Line.{Line}
use Rattle.ws_scripts.specs.declared.capture.line.Line.TheVariants.{Sent, Got}
use Rattle.ws_scripts.specs.declared.capture.line.CaptureLine.{CaptureLine}
use Rattle.ws_scripts.specs.declared.capture.line.CaptureLine.TheVariants.{First, Data, End}
use Rattle.ws_scripts.specs.CaptureLines.{HasLineBytes, line_words}
use Rattle.ws_scripts.specs.Scripts.{has_any}

-- ---- turns

-- a turn before others: one with the first of them where nothing was got in it, or nothing sent in that one; a last
-- turn without bytes is none
abbrev pub run_into : Turn → List Turn → List Turn
run_into turn [] = if has_any (turn.sent ++ turn.got) then turn ∷ [] else []
run_into turn (next ∷ turns) =
    if has_any turn.got && has_any next.sent then turn ∷ next ∷ turns
    else record { sent = turn.sent ++ next.sent; got = turn.got ++ next.got } ∷ turns

abbrev pub run_together : List Turn → List Turn
run_together [] = []
run_together (turn ∷ turns) = run_into turn (run_together turns)

-- what one line with bytes tells of a turn
abbrev pub turn_of_line : Line (List ℕ) → Turn
turn_of_line (Sent bytes) = record { sent = bytes; got = [] }
turn_of_line (Got bytes) = record { sent = []; got = bytes }

-- The turns of lines: one begins with the first line and with each sent line that follows a got line, and the lines of
-- one direction in a turn are joined.
abbrev pub turns_in : List (Line (List ℕ)) → List Turn
turns_in lines = run_together (map turn_of_line lines)

-- ---- captures

-- the first line, any number of lines with bytes, and the last
abbrev pub capture_lines : List (Line (List ℕ)) → Ended → List (CaptureLine (List ℕ))
capture_lines lines end = First One ∷ (map Data lines ++ End end ∷ [])

-- the text is read as the transcript, which did not break
pub record IsCaptureOf (transcript : Transcript) (text : List ℕ) : Type 0 where
  pub lines : List (Line (List ℕ))
  pub have_bytes : AllByRecursion HasLineBytes lines
  pub is_text : text ≡ ended (map line_words (capture_lines lines transcript.ended))
  pub not_broken : transcript.ended ≢ Broken
  pub are_turns : transcript.turns ≡ turns_in lines

-- what a fault tells of a text, in a format where `IsTextOf value text` says that the text tells the value: where the
-- fault names a line, the text is damaged at that line
abbrev pub DamagesCapture : {T : Type 0} → (T → List ℕ → Type 0) → CaptureFault → List ℕ → Type 0
DamagesCapture IsTextOf fault text = (n : ℕ) → fault ≡ Damaged n → IsDamagedAt IsTextOf n text

-- ---- writing

abbrev pub line_if_any : (List ℕ → Line (List ℕ)) → List ℕ → List (Line (List ℕ))
line_if_any line [] = []
line_if_any line (byte ∷ bytes) = line (byte ∷ bytes) ∷ []

-- for a turn a line for what was sent, if there is anything, and then one for what was got
abbrev pub lines_of_turn : Turn → List (Line (List ℕ))
lines_of_turn turn = line_if_any Sent turn.sent ++ line_if_any Got turn.got

-- a connection that broke is written, and so read, as one that the peer ended
abbrev pub end_as_read : Ended → Ended
end_as_read Tester = Tester
end_as_read Peer = Peer
end_as_read Broken = Peer

-- what writing a transcript gives
abbrev pub written_capture : Transcript → List ℕ
written_capture transcript =
    ended (map line_words (capture_lines (flat_map lines_of_turn transcript.turns) (end_as_read transcript.ended)))

-- ---- what is read of what was written

-- the bytes of the turn are bytes
abbrev pub AreOfBytes : Turn → Type 0
AreOfBytes turn = AreBytes turn.sent × AreBytes turn.got

-- the transcript that is read of a written one
abbrev pub as_read : Transcript → Transcript
as_read transcript = record { turns = run_together transcript.turns; ended = end_as_read transcript.ended }

-- something was sent or got in each turn: got in each but the last, and sent in each but the first
abbrev pub AreParted : List Turn → Type 0
AreParted [] = ⊤
AreParted (turn ∷ []) = 0 < length (turn.sent ++ turn.got)
AreParted (turn ∷ next ∷ turns) = (0 < length turn.got) × (0 < length next.sent) × AreParted (next ∷ turns)
