-- What is read of a capture, line by line: every part goes on, and a line makes of it what it makes in each text.
use Rattle.std.proofs.Common.{◌≡◌, ◌∙◌, ℕ, List, [], ◌∷◌, map, Option, Some, None, Result, Ok, Err, ap}
use Rattle.std.proofs.Common.{sym, refl, subst}
use Rattle.std.specs.List.{AllByRecursion}
use Rattle.ws_formats.specs.Reading.{TakesLine}
use Rattle.ws_base.specs.declared.text_fault.LineFault.{LineFault}
use Rattle.ws_base.specs.declared.text_fault.LineFault.TheVariants.{Damaged}
use Rattle.ws_scripts.specs.declared.capture.Capture.{Capture}
use Rattle.ws_scripts.specs.declared.capture.line.CaptureLine.{CaptureLine}
use Rattle.ws_scripts.specs.declared.capture.reading.PartialCapture.{PartialCapture}
use Rattle.ws_scripts.specs.declared.capture.reading.PartialCapture.TheVariants.{Whole}
use Rattle.ws_scripts.specs.CaptureLines.{HasWords, IsLineOf, line_words}
use Rattle.ws_scripts.specs.InnerCapturing.{Adds, TellCapture, part_with, read_of}
use Rattle.ws_scripts.proofs.CaptureWords.{same_line}

-- ---- one line more

-- nothing is read where a line may not stand
pub none_read : (lines : List (CaptureLine (List ℕ))) → read_of lines None ≡ None
none_read [] = refl
none_read (line ∷ lines) = none_read lines

pub none_whole : (lines : List (CaptureLine (List ℕ))) (capture : Capture) → read_of lines None ≡ Some (Whole capture)
    → ⊥
none_whole lines capture e = let wrong : None ≡ Some (Whole capture) = sym (none_read lines) ∙ e in absurd cc

-- nor after the last line
pub whole_stops : (lines : List (CaptureLine (List ℕ))) (one other : Capture)
    → read_of lines (Some (Whole one)) ≡ Some (Whole other)
    → (lines ≡ []) × (one ≡ other)
whole_stops [] one other e = (refl, cc)
whole_stops (line ∷ lines) one other e = absurd (none_whole lines other e)

-- the lines that go on begin with this one
first_told : (part : PartialCapture) (capture : Capture) (line : CaptureLine (List ℕ)) (words : List ℕ)
    (more : List (List ℕ)) → IsLineOf line words
    → TellCapture part capture (words ∷ more)
    → (lines : List (CaptureLine (List ℕ))) × AllByRecursion HasWords lines × (more ≡ map line_words lines)
    × (read_of lines (part_with part line) ≡ Some (Whole capture))
first_told part capture line words more is ([], h, e, f) = absurd cc
first_told part capture line words more is (x ∷ lines, h, e, f) =
    let head : words ≡ line_words x = cc in
    let tail : more ≡ map line_words lines = cc in
    let same : x ≡ line = same_line x line h.0 is.0 (sym head ∙ is.1) in (
      lines,
      h.1,
      tail,
      subst
          (λ (l : CaptureLine (List ℕ)). read_of lines (part_with part l) ≡ Some (Whole capture)) same f,
    )

pub line_taken : (part : PartialCapture) (line : CaptureLine (List ℕ)) (words : List ℕ)
    (result : Result PartialCapture LineFault) → IsLineOf line words
    → Adds (part_with part line) result → TakesLine TellCapture part words result
line_taken part line words (Ok longer) is e = λ capture more. (
  λ told.
      let (lines, h, f, g) = first_told part capture line words more is told in
      (capture, (lines, h, f, ap (λ (p : Option PartialCapture). read_of lines p) (sym e) ∙ g)),
  λ told. (
    line ∷ told.0,
    (is.0, told.1),
    both more told.0 is.1 told.2,
    ap (λ (p : Option PartialCapture). read_of told.0 p) e ∙ told.3,
  ),
)
  where
    both : (more : List (List ℕ)) (lines : List (CaptureLine (List ℕ))) → words ≡ line_words line
        → more ≡ map line_words lines → words ∷ more ≡ line_words line ∷ map line_words lines
    both more lines f g = cc
line_taken part line words (Err fault) is e = λ damaged capture more told.
    let (lines, h, f, g) = first_told part capture line words more is told in
    none_whole lines capture (ap (λ (p : Option PartialCapture). read_of lines p) (sym (e damaged)) ∙ g)

-- words that tell no line
pub none_taken : (part : PartialCapture) (words : List ℕ) (fault : LineFault)
    → (fault ≡ Damaged → (line : CaptureLine (List ℕ)) → IsLineOf line words → ⊥)
    → TakesLine TellCapture part words (Err fault)
none_taken part words fault wrong = λ damaged capture more told. none (wrong damaged) capture more told
  where
    none : ((line : CaptureLine (List ℕ)) → IsLineOf line words → ⊥) → (capture : Capture) (more : List (List ℕ))
        → TellCapture part capture (words ∷ more) → ⊥
    none wrong_line capture more ([], h, e, f) = absurd cc
    none wrong_line capture more (x ∷ lines, h, e, f) = let head : words ≡ line_words x = cc in wrong_line x (h.0, head)

-- before the last line no capture is read
pub not_whole : (part : PartialCapture) → ((capture : Capture) → part ≡ Whole capture → ⊥) → (capture : Capture)
    → TellCapture part capture [] → ⊥
not_whole part wrong capture ([], h, e, f) = let same : part ≡ Whole capture = cc in wrong capture same
not_whole part wrong capture (x ∷ lines, h, e, f) = absurd cc
