-- The captures of a text in either format are those that its lines tell, each of them by one list of lines.
use Rattle.std.proofs.Common.{◌≡◌, ◌∙◌, ℕ, inl, inr, Bool, true, false, List, [], ◌∷◌, ◌++◌, map, Some, None}
use Rattle.std.proofs.Common.{ap, sym, refl, subst}
use Rattle.std.specs.List.{AllByRecursion}
use Rattle.ws_formats.specs.Lines.{IsDamagedAt, IsTextOfLines, ended}
use Rattle.ws_formats.proofs.PartialTexts.{damaged_as, same_lines}
use Rattle.ws_scripts.specs.declared.transcript.Ended.{Ended}
use Rattle.ws_scripts.specs.declared.transcript.Transcript.{Transcript}
use Rattle.ws_scripts.specs.declared.capture.Capture.{Capture}
use Rattle.ws_scripts.specs.declared.capture.line.Format.TheVariants.{One, Two}
use Rattle.ws_scripts.specs.declared.capture.line.Line.{Line}
use Rattle.ws_scripts.specs.declared.capture.line.CaptureLine.{CaptureLine}
use Rattle.ws_scripts.specs.declared.capture.line.CaptureLine.TheVariants.{First, Key, Begin, Data, End}
use Rattle.ws_scripts.specs.declared.capture.reading.PartialCapture.TheVariants.{Nothing, Turns, Whole}
use Rattle.ws_scripts.specs.CaptureLines.{HasLineBytes, HasWords, line_words}
use Rattle.ws_scripts.specs.Captures.{IsCaptureOf, capture_lines, turns_in}
use Rattle.ws_scripts.specs.Captures2.{IsAnyCaptureOf, IsCapture2Of, turn_lines}
use Rattle.ws_scripts.specs.InnerCapturing.{TellCapture, capture_of, no_turns, read_of}
use Rattle.ws_scripts.proofs.CaptureWords.{same_lines_told, words_are_lines}
use Rattle.ws_scripts.proofs.CaptureParts.{none_whole}
use Rattle.ws_scripts.proofs.CaptureTurns.{lines_in_1, read_in_1}
use Rattle.ws_scripts.proofs.CaptureTurns2.{lines_in_2, read_in_2, turns_have, turns_hold}

abbrev Lines : Type 0
Lines = List (CaptureLine (List ℕ))

-- the text tells the capture, in either format or, where not both are read, in format 1
abbrev pub Tells : Bool → Capture → List ℕ → Type 0
Tells both capture text = IsTextOfLines (TellCapture (Nothing both)) capture text

tells_by : (both : Bool) (capture : Capture) (text : List ℕ) (lines : Lines) → AllByRecursion HasWords lines
    → read_of lines (Some (Nothing both)) ≡ Some (Whole capture)
    → text ≡ ended (map line_words lines) → Tells both capture text
tells_by both capture text lines h e f = (map line_words lines, words_are_lines lines h, (lines, h, refl, e), f)

-- ---- from the formats

data_have : (lines : List (Line (List ℕ))) (end : Ended) → AllByRecursion HasLineBytes lines
    → AllByRecursion HasWords (map Data lines ++ End end ∷ [])
data_have [] end h = (tt, tt)
data_have (line ∷ lines) end h = (h.0, data_have lines end h.1)

abbrev pub without_key : Transcript → Capture
without_key transcript = record { key = None; transcript = transcript }

pub of_format_1 : (both : Bool) (transcript : Transcript) (text : List ℕ) → IsCaptureOf transcript text
    → Tells both (without_key transcript) text
of_format_1 both transcript text is =
    tells_by both (without_key transcript) text (capture_lines is.lines transcript.ended)
    (tt, data_have is.lines transcript.ended is.have_bytes)
    (read_in_1 is.lines transcript.ended is.have_bytes is.not_broken None [] None
    ∙ ap (λ (turns : List _). Some (Whole (capture_of None turns transcript.ended))) (sym is.are_turns))
    is.is_text

pub of_format_2 : (capture : Capture) (text : List ℕ) → IsCapture2Of capture text → Tells true capture text
of_format_2 capture text is =
    tells_by true capture text (First Two ∷ Key capture.key ∷ turn_lines capture.transcript)
    (tt, (is.1.0.0, turns_have capture.transcript.turns (End capture.transcript.ended ∷ []) is.1.0.1 (tt, tt)))
    (read_in_2 capture.transcript.turns capture.transcript.ended capture.key [] None)
    (is.2 ∙ ap (λ (l : List (List ℕ)). ended l) is.1.1)

pub of_either : (capture : Capture) (text : List ℕ) → IsAnyCaptureOf capture text → Tells true capture text
of_either capture text (inl is) = of_format_2 capture text is
of_either capture text (inr is) =
    subst (λ (c : Capture). Tells true c text) (ap (λ (key : _). record capture { key = key }) (sym is.0))
    (of_format_1 true capture.transcript text is.1)

-- ---- to the formats

-- in format 2, where both are read, or else in format 1
abbrev IsIn : Bool → Capture → List ℕ → Type 0
IsIn true capture text = IsAnyCaptureOf capture text
IsIn false capture text = (capture.key ≡ None) × IsCaptureOf capture.transcript text

in_format_1 : (lines : Lines) (capture : Capture) (text : List ℕ) → AllByRecursion HasWords lines
    → read_of lines (Some (Turns One None no_turns)) ≡ Some (Whole capture)
    → text ≡ ended (map line_words (First One ∷ lines)) → (capture.key ≡ None) × IsCaptureOf capture.transcript text
in_format_1 lines capture text h e f =
    let (data_lines, end, g, has, not) = lines_in_1 lines None no_turns capture h e in
    let read = read_in_1 data_lines end has not None [] None in
    let same : Some (Whole (capture_of None (turns_in data_lines) end)) ≡ Some (Whole capture) =
    sym read ∙ (ap (λ (l : Lines). read_of l (Some (Turns One None no_turns))) (sym g) ∙ e) in
    let is : capture_of None (turns_in data_lines) end ≡ capture = cc in
    let end_is : end ≡ capture.transcript.ended = ap (λ (c : Capture). c.transcript.ended) is in (
      ap (λ (c : Capture). c.key) (sym is),
      record {
        lines = data_lines;
        have_bytes = has;
        is_text = f
            ∙ ap (λ (l : Lines). ended (map line_words (First One ∷ l)))
            (g ∙ ap (λ (x : Ended). map Data data_lines ++ End x ∷ []) end_is);
        not_broken = λ broken. not (end_is ∙ broken);
        are_turns = ap (λ (c : Capture). c.transcript.turns) (sym is);
      },
    )

in_format_2 : (key : _) (lines : Lines) (capture : Capture) (text : List ℕ) → AllByRecursion HasWords (Key key ∷ lines)
    → read_of lines (Some (Turns Two key no_turns)) ≡ Some (Whole capture)
    → text ≡ ended (map line_words (First Two ∷ Key key ∷ lines)) → IsCapture2Of capture text
in_format_2 key lines capture text h e f =
    let are = lines_in_2 lines key [] None capture h.1 e in
    let has = subst (λ (l : Lines). AllByRecursion HasWords l) are.0 h.1 in
    let key_has = subst (λ (k : _). HasWords (Key k)) (sym are.1) h.0 in
    let lines_are = ap (λ (l : Lines). map line_words (First Two ∷ Key key ∷ l)) are.0
    ∙ ap (λ (k : _). map line_words (First Two ∷ Key k ∷ turn_lines capture.transcript)) (sym are.1) in (
      map line_words (First Two ∷ Key key ∷ lines),
      ((key_has, turns_hold capture.transcript.turns (End capture.transcript.ended ∷ []) has), lines_are),
      f,
    )

told_in : (both : Bool) (lines : Lines) (capture : Capture) (text : List ℕ) → AllByRecursion HasWords lines
    → read_of lines (Some (Nothing both)) ≡ Some (Whole capture)
    → text ≡ ended (map line_words lines) → IsIn both capture text
told_in both [] capture text h e f = absurd cc
told_in true (First One ∷ lines) capture text h e f = inr (in_format_1 lines capture text h.1 e f)
told_in false (First One ∷ lines) capture text h e f = in_format_1 lines capture text h.1 e f
told_in true (First Two ∷ []) capture text h e f = absurd cc
told_in true (First Two ∷ Key key ∷ lines) capture text h e f = inl (in_format_2 key lines capture text h.1 e f)
told_in true (First Two ∷ First format ∷ lines) capture text h e f = absurd (none_whole lines capture e)
told_in true (First Two ∷ Begin ∷ lines) capture text h e f = absurd (none_whole lines capture e)
told_in true (First Two ∷ Data line ∷ lines) capture text h e f = absurd (none_whole lines capture e)
told_in true (First Two ∷ End end ∷ lines) capture text h e f = absurd (none_whole lines capture e)
told_in false (First Two ∷ lines) capture text h e f = absurd (none_whole lines capture e)
told_in both (Key key ∷ lines) capture text h e f = absurd (none_whole lines capture e)
told_in both (Begin ∷ lines) capture text h e f = absurd (none_whole lines capture e)
told_in both (Data line ∷ lines) capture text h e f = absurd (none_whole lines capture e)
told_in both (End end ∷ lines) capture text h e f = absurd (none_whole lines capture e)

pub is_in : (both : Bool) (capture : Capture) (text : List ℕ) → Tells both capture text → IsIn both capture text
is_in both capture text (words, are, (lines, h, e, f), g) = told_in both lines capture text h f
    (g ∙ ap (λ (l : List (List ℕ)). ended l) e)

-- ---- one capture

pub one_told : (both : Bool) (text : List ℕ) (a b : Capture) → Tells both a text → Tells both b text → a ≡ b
one_told both text a b (words, are, (lines, h, e, f), g) (others, are_too, (more, i, k, l), m) =
    let same = same_lines words others are are_too (sym g ∙ m) in
    let told = same_lines_told lines more h i (sym e ∙ (same ∙ k)) in
    let whole : Some (Whole a) ≡ Some (Whole b) = sym f
    ∙ (ap (λ (x : Lines). read_of x (Some (Nothing both))) told ∙ l) in
    cc

-- ---- damaged

pub damaged_1 : (n : ℕ) (text : List ℕ) → IsDamagedAt (IsTextOfLines (TellCapture (Nothing false))) n text
    → IsDamagedAt IsCaptureOf n text
damaged_1 n text d =
    damaged_as (IsTextOfLines (TellCapture (Nothing false))) IsCaptureOf n text
    (λ c x told. (c.transcript, (is_in false c x told).1)) (λ t x is. (without_key t, of_format_1 false t x is)) d

pub damaged_either : (n : ℕ) (text : List ℕ) → IsDamagedAt (IsTextOfLines (TellCapture (Nothing true))) n text
    → IsDamagedAt IsAnyCaptureOf n text
damaged_either n text d =
    damaged_as (IsTextOfLines (TellCapture (Nothing true))) IsAnyCaptureOf n text
    (λ c x told. (c, is_in true c x told)) (λ c x is. (c, of_either c x is)) d
