-- The words of a line are found by its spaces.
use Rattle.std.proofs.Common.{◌≡◌, ◌≢◌, ◌∙◌, ℕ, ◌==◌, false, List, [], ◌∷◌, ◌++◌, ap, append_assoc, map, refl, sym, arith}
use Rattle.std.proofs.lemmas.Bool.Decides.{nat_tests}
use Rattle.std.proofs.lemmas.List.{map-append}
use Rattle.std.proofs.lemmas.List.Splits.{slice_split_at, slice_split_none}
use Rattle.std.specs.Borrow.{Bor}
use Rattle.ws_formats.specs.Reading.{IsWord}
use Rattle.ws_formats.specs.Words.{words_of}
use Rattle.std.specs.List.{All, AllByRecursion, join_with_byte, slice_split}

no_space : (b : ℕ) → b ≢ 32 → (b == 32) ≡ false
no_space b other = grind (arith, nat_tests)

spared : (word : List ℕ) → All (λ b. b ≢ 32) word → All (λ b. (b == 32) ≡ false) word
spared word h k d less = no_space _ (h k d less)

pub split_joined : (word : List ℕ) (words : List (List ℕ)) → AllByRecursion (All (λ b. b ≢ 32)) (word ∷ words)
    → slice_split (λ b. b == 32) (join_with_byte 32 (word ∷ words)) ≡ word ∷ words
split_joined word [] h = slice_split_none (λ b. b == 32) word (spared word h.0)
split_joined word (next ∷ words) h =
    slice_split_at (λ b. b == 32) word 32 (join_with_byte 32 (next ∷ words)) (spared word h.0) refl
    ∙ ap (λ (l : List (List ℕ)). word ∷ l) (split_joined next words h.1)

-- the words of a line with a space are the first one and those behind it
pub first_word : (word after line : List ℕ) → line ≡ word ++ 32 ∷ after → IsWord word → words_of line ≡ word ∷ words_of after
first_word word after line parted spare =
    ap words_of parted ∙ slice_split_at (λ b. b == 32) word 32 after (spared word spare) refl

-- one more word
pub words_further : (words : List (Bor (List ℕ))) (word : Bor (List ℕ)) (after rest : List ℕ) (all : List (List ℕ))
    → map (λ w. w.now) words ++ words_of rest ≡ all → rest ≡ word.now ++ 32 ∷ after → IsWord word.now
    → map (λ w. w.now) (words ++ word ∷ []) ++ words_of after ≡ all
words_further words word after rest all before parted spare =
    ap (λ (l : List (List ℕ)). l ++ words_of after) (map-append (λ w. w.now) words (word ∷ []))
    ∙ append_assoc (map (λ w. w.now) words) (word.now ∷ []) (words_of after)
    ∙ ap (λ (l : List (List ℕ)). map (λ w. w.now) words ++ l) (sym (first_word word.now after rest parted spare))
    ∙ before

-- the last word
pub words_whole : (words : List (Bor (List ℕ))) (rest : Bor (List ℕ)) (all : List (List ℕ))
    → map (λ w. w.now) words ++ words_of rest.now ≡ all → IsWord rest.now
    → map (λ w. w.now) (words ++ rest ∷ []) ≡ all
words_whole words rest all before spare =
    map-append (λ w. w.now) words (rest ∷ [])
    ∙ ap (λ (l : List (List ℕ)). map (λ w. w.now) words ++ l)
    (sym (slice_split_none (λ b. b == 32) rest.now (spared rest.now spare)))
    ∙ before
