-- What captures are written as, in either format.
use Rattle.std.proofs.Common.{◌≡◌, ◌∙◌, ℕ, List, [], ◌∷◌, ◌++◌, map, flat_map, ap, ap₂, sym, refl, append_assoc}
use Rattle.std.proofs.Common.{append-nil}
use Rattle.std.proofs.lemmas.List.{map-append}
use Rattle.ws_formats.specs.Lines.{ended}
use Rattle.ws_formats.proofs.PartialTexts.{ended_joined}
use Rattle.ws_scripts.specs.declared.transcript.Turn.{Turn}
use Rattle.ws_scripts.specs.declared.transcript.Transcript.{Transcript}
use Rattle.ws_scripts.specs.declared.capture.Capture.{Capture}
use Rattle.ws_scripts.specs.declared.capture.line.Format.TheVariants.{One, Two}
use Rattle.ws_scripts.specs.declared.capture.line.Line.TheVariants.{Sent, Got}
use Rattle.ws_scripts.specs.declared.capture.line.CaptureLine.{CaptureLine}
use Rattle.ws_scripts.specs.declared.capture.line.CaptureLine.TheVariants.{First, Key, Begin, Data, End}
use Rattle.ws_scripts.specs.CaptureLines.{line_words}
use Rattle.ws_scripts.specs.Captures.{lines_of_turn, written_capture}
use Rattle.ws_scripts.specs.Captures2.{marked_turn, written_capture2}
use Rattle.ws_scripts.specs.InnerCapturing.{capture_text, line_text, text_if_any, turn_text, written_end}

abbrev Lines : Type 0
Lines = List (CaptureLine (List ℕ))

abbrev text_of : Lines → List ℕ
text_of lines = ended (map line_words lines)

joined : (a b : Lines) → text_of (a ++ b) ≡ text_of a ++ text_of b
joined a b = ap (λ (l : List (List ℕ)). ended l) (map-append line_words a b)
    ∙ ended_joined (map line_words a) (map line_words b)

-- the text of a turn with bytes in both directions, or in one, or in none
data_is : (sent got : List ℕ)
    → text_if_any Sent sent ++ text_if_any Got got
    ≡ text_of (map Data (lines_of_turn (record { sent = sent; got = got })))
data_is [] [] = refl
data_is [] (y ∷ got) = sym (append-nil _)
data_is (x ∷ sent) [] = refl
data_is (x ∷ sent) (y ∷ got) = ap (λ (l : List ℕ). line_text (Data (Sent (x ∷ sent))) ++ l) (sym (append-nil _))

-- lines of turns, and how the connection ended
turns_are : (lines_in : Turn → Lines) (text_in : Turn → List ℕ)
    → ((turn : Turn) → text_in turn ≡ text_of (lines_in turn)) → (turns : List Turn) (last : CaptureLine (List ℕ))
    → flat_map text_in turns ++ line_text last ≡ text_of (flat_map lines_in turns ++ last ∷ [])
turns_are lines_in text_in is turns last =
    ap₂ (λ (a b : List ℕ). a ++ b) (all_are turns) (sym (append-nil (line_text last)))
    ∙ sym (joined (flat_map lines_in turns) (last ∷ []))
  where
    all_are : (turns : List Turn) → flat_map text_in turns ≡ text_of (flat_map lines_in turns)
    all_are [] = refl
    all_are (turn ∷ turns) = ap₂ (λ (a b : List ℕ). a ++ b) (is turn) (all_are turns)
        ∙ sym (joined (lines_in turn) (flat_map lines_in turns))

data_of_turns : (turns : List Turn)
    → flat_map (λ (turn : Turn). map Data (lines_of_turn turn)) turns ≡ map Data (flat_map lines_of_turn turns)
data_of_turns [] = refl
data_of_turns (turn ∷ turns) =
    ap (λ (l : Lines). map Data (lines_of_turn turn) ++ l) (data_of_turns turns)
    ∙ sym (map-append Data (lines_of_turn turn) (flat_map lines_of_turn turns))

pub written_1 : (key : _) (transcript : Transcript) → capture_text One key transcript ≡ written_capture transcript
written_1 key transcript =
    let end = End (written_end One transcript.ended) in
    ap (λ (l : List ℕ). line_text (First One) ++ l)
    (turns_are (λ (turn : Turn). map Data (lines_of_turn turn)) (turn_text One)
    (λ turn. data_is turn.sent turn.got) transcript.turns end
    ∙ ap (λ (l : Lines). text_of (l ++ end ∷ [])) (data_of_turns transcript.turns))

pub written_2 : (capture : Capture) → capture_text Two capture.key capture.transcript ≡ written_capture2 capture
written_2 capture =
    let turns = turns_are marked_turn (turn_text Two)
    (λ turn. ap (λ (l : List ℕ). line_text Begin ++ l) (data_is turn.sent turn.got)) capture.transcript.turns
    (End capture.transcript.ended) in
    append_assoc (line_text (First Two)) (line_text (Key capture.key)) _
    ∙ ap (λ (l : List ℕ). line_text (First Two) ++ (line_text (Key capture.key) ++ l)) turns
