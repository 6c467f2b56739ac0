-- The first two words of a text, cut at its spaces.
use Rattle.std.proofs.Common.{◌≡◌, ◌≢◌, ◌∙◌, ℕ, ◌+◌, ◌==◌, Bool, true, false, All, List, [], ◌∷◌, ◌++◌, length, take}
use Rattle.std.proofs.Common.{ap, sym, refl, arith, if◌then◌else◌}
use Rattle.std.proofs.lemmas.Bool.Decides.{nat_tests}
use Rattle.std.proofs.lemmas.List.Elements.{All-head, All-tail}
use Rattle.std.proofs.lemmas.List.{append_assoc, length-append, take_at}
use Rattle.ws_reports.specs.Cutting.{IsCutAtFirst}
use Rattle.ws_reports.specs.Junit.{first_two_words, front_word}

abbrev NoSpace : ℕ → Type 0
NoSpace byte = byte ≢ 32

is_space : (byte : ℕ) → (byte == 32) ≡ true → byte ≡ 32
is_space byte e = grind (arith, nat_tests)

not_space : (byte : ℕ) → NoSpace byte → (byte == 32) ≡ false
not_space byte other = cases (byte == 32) refl
  where
    cases : (b : Bool) → (byte == 32) ≡ b → b ≡ false
    cases true e = absurd (other (is_space byte e))
    cases false e = refl

pub word_whole : (text : List ℕ) → All NoSpace text → front_word text ≡ text
word_whole [] none = refl
word_whole (byte ∷ text) none =
    ap (λ (b : Bool). if b then [] else byte ∷ front_word text) (not_space byte (All-head NoSpace byte text none))
    ∙ ap (λ (l : List ℕ). byte ∷ l) (word_whole text (All-tail NoSpace byte text none))

pub words_whole : (text : List ℕ) → All NoSpace text → first_two_words text ≡ text
words_whole [] none = refl
words_whole (byte ∷ text) none =
    ap (λ (b : Bool). if b then byte ∷ front_word text else byte ∷ first_two_words text)
    (not_space byte (All-head NoSpace byte text none))
    ∙ ap (λ (l : List ℕ). byte ∷ l) (words_whole text (All-tail NoSpace byte text none))

word_at : (front back : List ℕ) → All NoSpace front → front_word (front ++ 32 ∷ back) ≡ front
word_at [] back none = refl
word_at (byte ∷ front) back none =
    ap (λ (b : Bool). if b then [] else byte ∷ front_word (front ++ 32 ∷ back))
    (not_space byte (All-head NoSpace byte front none))
    ∙ ap (λ (l : List ℕ). byte ∷ l) (word_at front back (All-tail NoSpace byte front none))

words_at : (front back : List ℕ) → All NoSpace front
    → first_two_words (front ++ 32 ∷ back) ≡ front ++ 32 ∷ front_word back
words_at [] back none = refl
words_at (byte ∷ front) back none =
    ap (λ (b : Bool). if b then byte ∷ front_word (front ++ 32 ∷ back) else byte ∷ first_two_words (front ++ 32 ∷ back))
    (not_space byte (All-head NoSpace byte front none))
    ∙ ap (λ (l : List ℕ). byte ∷ l) (words_at front back (All-tail NoSpace byte front none))

-- with one space there are no more than two words
pub words_of_one_cut : (text front back : List ℕ) → IsCutAtFirst 32 text front back → All NoSpace back
    → text ≡ first_two_words text
words_of_one_cut text front back cut none =
    cut.0 ∙ ap (λ (l : List ℕ). front ++ 32 ∷ l) (sym (word_whole back none)) ∙ sym (words_at front back cut.1)
    ∙ ap first_two_words (sym cut.0)

-- the second space ends them
pub words_of_two_cuts : (text front back second more : List ℕ) (n : ℕ) → IsCutAtFirst 32 text front back
    → IsCutAtFirst 32 back second more → n ≡ length front + 1 + length second → take n text ≡ first_two_words text
words_of_two_cuts text front back second more n cut next count =
    let whole : text ≡ (front ++ 32 ∷ second) ++ 32 ∷ more =
    cut.0 ∙ ap (λ (l : List ℕ). front ++ 32 ∷ l) next.0 ∙ sym (append_assoc front (32 ∷ second) (32 ∷ more)) in
    let long : n ≡ length (front ++ 32 ∷ second) = omega (arith, count, length-append front (32 ∷ second)) in
    ap (λ (k : ℕ). take k text) long ∙ ap (λ (l : List ℕ). take (length (front ++ 32 ∷ second)) l) whole
    ∙ take_at (front ++ 32 ∷ second) (32 ∷ more) (length (front ++ 32 ∷ second)) refl
    ∙ sym (ap first_two_words (cut.0 ∙ ap (λ (l : List ℕ). front ++ 32 ∷ l) next.0)
    ∙ words_at front (second ++ 32 ∷ more) cut.1
    ∙ ap (λ (l : List ℕ). front ++ 32 ∷ l) (word_at second more next.1))
