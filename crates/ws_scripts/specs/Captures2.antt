-- Captures that keep all, in format 2: a transcript with its masking key as lines of text, each of which ends with LF;
-- and captures in either format.
use Rattle.std.specs.Prelude.{◌≡◌, ◌⊎◌, ◌<◌, ⊤, ℕ, List, [], ◌∷◌, ◌++◌, length, map, flat_map, None, IfSome}
use Rattle.std.specs.List.{AllByRecursion}
use Rattle.ws_formats.specs.Words.{AreFourBytes}
use Rattle.ws_formats.specs.Lines.{ended}
use Rattle.ws_scripts.specs.declared.transcript.Turn.{Turn}
use Rattle.ws_scripts.specs.declared.transcript.Transcript.{Transcript}
use Rattle.ws_scripts.specs.declared.capture.Capture.{Capture}
use Rattle.ws_scripts.specs.declared.capture.line.Format.TheVariants.{Two}
use Rattle.ws_scripts.specs.declared.capture.line.CaptureLine.{CaptureLine}
use Rattle.ws_scripts.specs.declared.capture.line.CaptureLine.TheVariants.{First, Key, Begin, Data, End}
use Rattle.ws_scripts.specs.CaptureLines.{line_words}
use Rattle.ws_scripts.specs.Captures.{AreOfBytes, IsCaptureOf, lines_of_turn}

-- ---- lines

-- for each turn a line that begins it, then one for what was sent and one for what was got, where there is anything
abbrev pub marked_turn : Turn → List (CaptureLine (List ℕ))
marked_turn turn = Begin ∷ map Data (lines_of_turn turn)

-- the lines after the second: those of each turn, and how the connection ended
abbrev pub turn_lines : Transcript → List (CaptureLine (List ℕ))
turn_lines transcript = flat_map marked_turn transcript.turns ++ End transcript.ended ∷ []

-- the second line tells the key, or that none is known
abbrev pub capture2_lines : Capture → List (List ℕ)
capture2_lines capture = map line_words (First Two ∷ Key capture.key ∷ turn_lines capture.transcript)

-- ---- captures

-- what a capture holds is bytes, and its key, if it has one, is four of them
abbrev pub HoldsBytes : Capture → Type 0
HoldsBytes capture = IfSome capture.key AreFourBytes × AllByRecursion AreOfBytes capture.transcript.turns

-- the capture has these lines in format 2
abbrev pub HasLines2 : Capture → List (List ℕ) → Type 0
HasLines2 capture lines = HoldsBytes capture × (lines ≡ capture2_lines capture)

-- what writing a capture gives: its lines
abbrev pub written_capture2 : Capture → List ℕ
written_capture2 capture = ended (capture2_lines capture)

-- the text is the capture's lines in format 2
abbrev pub IsCapture2Of : Capture → List ℕ → Type 0
IsCapture2Of capture text = (lines : List (List ℕ)) × HasLines2 capture lines × (text ≡ ended lines)

-- the text is the capture in either format: format 1 tells no key
abbrev pub IsAnyCaptureOf : Capture → List ℕ → Type 0
IsAnyCaptureOf capture text =
    IsCapture2Of capture text ⊎ ((capture.key ≡ None) × IsCaptureOf capture.transcript text)

-- ---- what format 1 gives back

-- something was sent in each turn, and something was got in each but the last
abbrev pub AreAnsweredTurns : List Turn → Type 0
AreAnsweredTurns [] = ⊤
AreAnsweredTurns (turn ∷ []) = 0 < length turn.sent
AreAnsweredTurns (turn ∷ next ∷ turns) =
    (0 < length turn.sent) × (0 < length turn.got) × AreAnsweredTurns (next ∷ turns)
