-- The captures of a text are those of which its lines reach the end, and where they stop it is damaged.
use Rattle.std.proofs.Common.{◌≡◌, ◌∙◌, ℕ, inl, inr, List, [], ◌∷◌, codes, Some, None, ap, ap₂, refl}
use Rattle.std.specs.List.{AllZip}
use Rattle.ws_formats.specs.Lines.{IsDamagedAt, IsTextOfLines, ended}
use Rattle.ws_formats.proofs.PartialTexts.{damaged_as}
use Rattle.ws_scripts.specs.declared.transcript.Transcript.{Transcript}
use Rattle.ws_scripts.specs.declared.capture.Capture.{Capture}
use Rattle.ws_scripts.specs.Captures.{IsCaptureOf}
use Rattle.ws_scripts.specs.Captures2.{IsAnyCaptureOf, IsCapture2Of, capture2_lines}
use Rattle.ws_capture_text.specs.declared.line_kind.LineKind.{LineKind}
use Rattle.ws_capture_text.specs.declared.line_kind.LineKind.TheVariants as kind
use Rattle.ws_capture_text.specs.declared.stage.Stage.TheVariants.{Nothing, Whole}
use Rattle.ws_capture_text.specs.InnerKinds.{IsKindOf}
use Rattle.ws_capture_text.specs.InnerStages.{ReachesWhole, reached}
use Rattle.ws_capture_text.proofs.OneKind.{kinds_are_lines}
use Rattle.ws_capture_text.proofs.Lines1.{capture_in_1, kinds_in_1, lines_of_1, turns_in_1, words_in}
use Rattle.ws_capture_text.proofs.Lines2.{capture_in_2, kinds_in_2}
use Rattle.ws_capture_text.proofs.StageSteps.{none_whole}

abbrev IsTold : List ℕ → Type 0
IsTold text = (value : Unit {0}) × IsTextOfLines (ReachesWhole Nothing) value text

by_kinds : (kinds : List LineKind) (lines : List (List ℕ)) (text : List ℕ) → AllZip IsKindOf kinds lines
    → reached kinds (Some Nothing) ≡ Some Whole → text ≡ ended lines → IsTold text
by_kinds kinds lines text are e f = (tt, (lines, kinds_are_lines kinds lines are, (kinds, are, e), f))

of_format_1 : (transcript : Transcript) (text : List ℕ) → IsCaptureOf transcript text → IsTold text
of_format_1 transcript text is =
    let (turns, ways, same, f) = lines_of_1 transcript text is in
    let (kinds, are, e) = kinds_in_1 turns transcript.ended ways is.not_broken in
    by_kinds (kind.FirstOf1 ∷ kinds) (codes "wst-capture 1" ∷ words_in turns transcript.ended) text (refl, are) e f

of_format_2 : (capture : Capture) (text : List ℕ) → IsCapture2Of capture text → IsTold text
of_format_2 capture text (lines, (holds, same), f) =
    let (kinds, are, e) =
    kinds_in_2 capture.key capture.transcript.turns capture.transcript.ended holds.0 holds.1 in
    by_kinds kinds (capture2_lines capture) text are e (f ∙ ap (λ (l : List (List ℕ)). ended l) same)

is_told : (capture : Capture) (text : List ℕ) → IsAnyCaptureOf capture text → IsTold text
is_told capture text (inl is) = of_format_2 capture text is
is_told capture text (inr is) = of_format_1 capture.transcript text is.1

abbrev IsSome : List ℕ → Type 0
IsSome text = (capture : Capture) × IsAnyCaptureOf capture text

told_by : (kinds : List LineKind) (lines : List (List ℕ)) (text : List ℕ) → AllZip IsKindOf kinds lines
    → reached kinds (Some Nothing) ≡ Some Whole → text ≡ ended lines → IsSome text
told_by [] lines text are e f = absurd cc
told_by (first ∷ kinds) [] text are e f = absurd are
told_by (kind.FirstOf1 ∷ kinds) (line ∷ lines) text are e f =
    let (turns, end, ways, not, same) = turns_in_1 kinds lines are.1 e in
    let both = ap₂ (λ (a : List ℕ) (b : List (List ℕ)). ended (a ∷ b)) are.0 same in
    let (transcript, is) = capture_in_1 turns end text ways not (f ∙ both) in
    (record { key = None; transcript = transcript }, inr (refl, is))
told_by (kind.FirstOf2 ∷ kinds) (line ∷ lines) text are e f =
    let (capture, holds, same) = capture_in_2 kinds lines are.1 e in
    (capture, inl (codes "wst-capture 2" ∷ lines, (holds, same), f ∙ ap (λ (l : List ℕ). ended (l ∷ lines)) are.0))
told_by (kind.Key ∷ kinds) (line ∷ lines) text are e f = absurd (none_whole kinds e)
told_by (kind.Begin ∷ kinds) (line ∷ lines) text are e f = absurd (none_whole kinds e)
told_by (kind.Data mark ∷ kinds) (line ∷ lines) text are e f = absurd (none_whole kinds e)
told_by (kind.End ∷ kinds) (line ∷ lines) text are e f = absurd (none_whole kinds e)
told_by (kind.Broken ∷ kinds) (line ∷ lines) text are e f = absurd (none_whole kinds e)

pub is_capture : (value : Unit {0}) (text : List ℕ) → IsTextOfLines (ReachesWhole Nothing) value text → IsSome text
is_capture value text (lines, are_lines, (kinds, are, e), f) = told_by kinds lines text are e f

pub damaged_capture : (n : ℕ) (text : List ℕ) → IsDamagedAt (IsTextOfLines (ReachesWhole Nothing)) n text
    → IsDamagedAt IsAnyCaptureOf n text
damaged_capture n text damaged =
    damaged_as (IsTextOfLines (ReachesWhole Nothing)) IsAnyCaptureOf n text is_capture is_told damaged
