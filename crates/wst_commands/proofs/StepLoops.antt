-- Steps of the loops over a damaged line: the search for half of a pair goes over the letter of an escape, and over any
-- other byte; a word behind data is there; and no word is above one of which nothing is left.
use Rattle.std.proofs.Common.{◌≡◌, ◌≤◌, ◌-◌, ◌==◌, ◌||◌, ◌∙◌, ap, arith, ℕ, Bool, true, false, List, [], ◌∷◌, drop, length}
use Rattle.std.proofs.Common.{if◌then◌else◌, slice_index}
use Rattle.std.proofs.Common.{◌<◌, map, refl, suc, zero}
use Rattle.std.specs.Borrow.{Bor}
use Rattle.wst_commands.specs.StepTexts.{bytes_to_low, half_stands_alone, is_half_alone}
use Rattle.wst_commands.specs.StepWords.{field_rank, has_word_behind, is_not_above}

pub escape_step : (left : ℕ) (rest : List ℕ) → 2 ≤ length rest → slice_index rest 0 ≡ 92
    → is_half_alone (left == 1) (slice_index rest 1) (drop 2 rest) ≡ false
    → half_stands_alone left rest ≡ half_stands_alone (bytes_to_low (slice_index rest 1) (drop 2 rest)) (drop 2 rest)
escape_step left [] few mark pair = absurd (omega (arith, few))
escape_step left (byte ∷ []) few mark pair = absurd (omega (arith, few))
escape_step left (byte ∷ letter ∷ rest) few mark pair =
    ap (λ (b : ℕ). if b == 92 then is_half_alone (left == 1) letter rest || half_stands_alone (bytes_to_low letter rest) rest
    else half_stands_alone (left - 1) (letter ∷ rest)) mark
    ∙ ap (λ (t : Bool). t || half_stands_alone (bytes_to_low letter rest) rest) pair

pub plain_step : (left : ℕ) (rest : List ℕ) → 2 ≤ length rest → (slice_index rest 0 == 92) ≡ false
    → half_stands_alone left rest ≡ half_stands_alone (left - 1) (drop 1 rest)
plain_step left [] few other = absurd (omega (arith, few))
plain_step left (byte ∷ []) few other = absurd (omega (arith, few))
plain_step left (byte ∷ letter ∷ rest) few other =
    ap (λ (t : Bool). if t then is_half_alone (left == 1) letter rest || half_stands_alone (bytes_to_low letter rest) rest
    else half_stands_alone (left - 1) (letter ∷ rest)) other

pub behind_there : (behind : Bool) (at : ℕ) (words : List (Bor (List ℕ))) → behind ≡ true → at < length words
    → has_word_behind behind (map (λ word. word.now) (drop at words)) ≡ true
behind_there behind at [] is less = absurd (omega (arith, less))
behind_there behind zero (word ∷ words) is less =
    ap (λ (b : Bool). b || has_word_behind (field_rank word.now == 5) (map (λ word. word.now) words)) is
behind_there behind (suc at) (word ∷ words) is less = behind_there behind at words is (omega (arith, less))

pub nothing_above : (word most : List ℕ) → length most < 1 → is_not_above word most ≡ true
nothing_above [] most less = refl
nothing_above (byte ∷ bytes) [] less = refl
nothing_above (byte ∷ bytes) (top ∷ rest) less = absurd (omega (arith, less))
