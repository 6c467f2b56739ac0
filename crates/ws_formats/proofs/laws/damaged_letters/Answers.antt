-- The second line of each text is no letter, or no line.
use Rattle.std.proofs.Common.{◌≡◌, ◌∙◌, ◌<◌, ◌∷◌, ◌++◌, [], ap, arith, codes, length, List, ℕ, refl, slice_index, suc}
use Rattle.std.proofs.Common.{zero}
use Rattle.std.specs.List.{AllZip}
use Rattle.ws_formats.specs.Examples.{IsLetter}
use Rattle.ws_formats.specs.Lines.{HasLineForEach, IsDamagedAt, IsLine}
use Rattle.ws_formats.specs.Reading.{TellFurther}
use Rattle.ws_formats.proofs.PartialTexts.{damaged_after, damaged_each}
use Rattle.ws_formats.proofs.laws.damaged_letters.Goals as goal

one : (b : ℕ) → (b ≡ 10 → ⊥) → IsLine (b ∷ [])
one b other zero d less = other
one b other (suc k) d less = absurd (omega arith)

is_line : IsLine (codes "a")
is_line = one 97 (λ e. absurd (omega (arith, e)))

pub returns-clause-two_letters : goal.returns-clause-two_letters
returns-clause-two_letters c =
    (codes "a", codes "a\n", refl, is_line, (refl, refl), (codes "a", [], refl, is_line, (refl, refl), refl))

-- a line after the first one is the same letter
second : (letters : List ℕ) (line : List ℕ) (left : List (List ℕ)) → AllZip IsLetter letters (codes "a" ∷ line ∷ left)
    → line ≡ codes "a"
second [] line left zip = absurd zip
second (x ∷ []) line left zip = absurd zip.1
second (x ∷ y ∷ letters) line left zip = zip.1.0.1

-- after one letter stands neither another nor the end
damaged_second : (rest text : List ℕ) → text ≡ codes "a\n" ++ rest → 0 < length rest
    → ((after : List ℕ) → rest ≡ codes "a\n" ++ after → ⊥)
    → IsDamagedAt (HasLineForEach IsLetter) 2 text
damaged_second rest text split some wrong =
    damaged_each IsLetter 2 text
    (damaged_after (TellFurther IsLetter []) (codes "a" ∷ []) rest text 2 (97 ∷ []) [] (is_line, tt) tt split refl
    (97 ∷ [], refl, ((refl, refl), tt))
    (λ v line left after told e is. wrong after
    (e ∙ ap (λ (l : List ℕ). l ++ 10 ∷ after) (second told.0 line left told.2)))
    (λ v told e. omega (arith, some, ap (λ (l : List ℕ). length l) e)))

pub returns-clause-another : goal.returns-clause-another
returns-clause-another c = damaged_second (codes "b\n") (codes "a\nb\n") refl (omega arith)
    (λ after e. omega (arith, ap (λ (l : List ℕ). slice_index l 0) e))

pub returns-clause-no_feed : goal.returns-clause-no_feed
returns-clause-no_feed c = damaged_second (codes "a") (codes "a\na") refl (omega arith)
    (λ after e. omega (arith, ap (λ (l : List ℕ). length l) e))
