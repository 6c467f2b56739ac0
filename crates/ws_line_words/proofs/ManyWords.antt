-- A line of which five words are cut off, and of which a further one ends, has more than six.
use Rattle.std.proofs.Common.{◌≡◌, ◌∙◌, ◌+◌, ◌<◌, ◌==◌, ◌∷◌, ◌++◌, ℕ, List, ap, arith, length, map, sym}
use Rattle.std.proofs.lemmas.List.{length-append, length-map}
use Rattle.std.proofs.lemmas.List.Splits.{length-slice_split}
use Rattle.std.specs.Borrow.{Bor}
use Rattle.ws_formats.specs.Reading.{IsWord}
use Rattle.ws_formats.specs.Words.{words_of}
use Rattle.ws_formats.proofs.LineWords.{first_word}

pub too_many : (words : List (Bor (List ℕ))) (word : Bor (List ℕ)) (after rest : List ℕ) (all : List (List ℕ))
    → map (λ w. w.now) words ++ words_of rest ≡ all → length words ≡ 5 → rest ≡ word.now ++ 32 ∷ after → IsWord word.now
    → 6 < length all
too_many words word after rest all is five parted spare =
    let count : length all ≡ length (map (λ (w : Bor (List ℕ)). w.now) words) + length (words_of rest) =
    ap length (sym is) ∙ length-append (map (λ (w : Bor (List ℕ)). w.now) words) (words_of rest) in
    let before : length (map (λ (w : Bor (List ℕ)). w.now) words) ≡ length words = length-map words (λ (w : Bor (List ℕ)). w.now) in
    let more : length (words_of rest) ≡ length (word.now ∷ words_of after) = ap length (first_word word.now after rest parted spare) in
    let last = length-slice_split (λ (b : ℕ). b == 32) after in
    omega (arith, count, before, more, last, five)
