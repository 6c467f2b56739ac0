-- A list that is walked over, as its elements are seen: each step takes the next element from what is left.
use Rattle.std.proofs.Common.{◌≡◌, ◌∙◌, ℕ, ◌+◌, ◌<◌, ◌≤◌, List, [], ◌∷◌, ◌++◌, length, take, drop, get_or, map, ap, sym}
use Rattle.std.proofs.Common.{append-nil, append_assoc}
use Rattle.std.proofs.lemmas.Grind.{flat_map-append, put_two}
use Rattle.std.proofs.lemmas.List.{drop_all, drop_more, take_more}
use Rattle.std.specs.Fmt.{HasWritten}
use Rattle.std.specs.List.{flat_map, fold}
use Rattle.std.specs.declared.fmt.Formatter.{Formatter}

-- what is left begins with the next element
pub left_first : {A B : Type 0} (g : A → B) (xs : List A) (i : ℕ) (x : A) → i < length xs → x ≡ get_or xs i x
    → map g (drop i xs) ≡ g x ∷ map g (drop (i + 1) xs)
left_first {A} g xs i x less is =
    ap (map g) (drop_more xs i x less) ∙ ap (λ (y : A). g y ∷ map g (drop (i + 1) xs)) (sym is)

-- in the end nothing is left
pub left_none : {A B : Type 0} (g : A → B) (xs : List A) (i : ℕ) → length xs ≤ i → map g (drop i xs) ≡ []
left_none g xs i past = ap (map g) (drop_all i xs past)

-- a fold that what is left decides, after one step more
pub walk_step : {A B C : Type 0} (f : C → B → C) (g : A → B) (xs : List A) (i : ℕ) (x : A) (b whole : C)
    → i < length xs → x ≡ get_or xs i x → fold f b (map g (drop i xs)) ≡ whole
    → fold f (f b (g x)) (map g (drop (i + 1) xs)) ≡ whole
walk_step f g xs i x b whole less is e = sym (ap (fold f b) (left_first g xs i x less is)) ∙ e

-- and in the end
pub walk_end : {A B C : Type 0} (f : C → B → C) (g : A → B) (xs : List A) (i : ℕ) (b whole : C) → length xs ≤ i
    → fold f b (map g (drop i xs)) ≡ whole → b ≡ whole
walk_end f g xs i b whole past e = sym (ap (fold f b) (left_none g xs i past)) ∙ e

-- ---- what is written

-- the texts of the elements so far, and one more
pub texts_more : {A B : Type 0} (part : A → List B) (xs : List A) (i : ℕ) (x : A) → i < length xs → x ≡ get_or xs i x
    → flat_map part (take i xs) ++ part x ≡ flat_map part (take (i + 1) xs)
texts_more {A} {B} part xs i x less is =
    ap (λ (l : List B). flat_map part (take i xs) ++ l) (sym (append-nil (part x)))
    ∙ sym (flat_map-append part (take i xs) (x ∷ []))
    ∙ ap (flat_map part) (ap (λ (y : A). take i xs ++ y ∷ []) is ∙ sym (take_more xs i x less))

pub written_more : {A W : Type 0} (took : W → List ℕ → W → Type 0) (f g h : Formatter W) (show : A → List ℕ)
    (xs : List A) (i : ℕ) (x : A) → i < length xs → x ≡ get_or xs i x
    → HasWritten took f (flat_map show (take i xs)) g → HasWritten took g (show x) h
    → HasWritten took f (flat_map show (take (i + 1) xs)) h
written_more took f g h show xs i x less is before now =
    put_two took f g h (flat_map show (take i xs)) (show x) (flat_map show (take (i + 1) xs)) before now
    (texts_more show xs i x less is)

-- ---- lists that are put together

-- what is left begins with the next element
pub rest_first : {A : Type 0} (xs : List A) (i : ℕ) (x : A) → i < length xs → x ≡ get_or xs i x
    → drop i xs ≡ x ∷ drop (i + 1) xs
rest_first {A} xs i x less is = drop_more xs i x less ∙ ap (λ (y : A). y ∷ drop (i + 1) xs) (sym is)

-- the lists of the elements so far, and those of the elements that are left, after one step more
pub joined_step : {A B : Type 0} (part : A → List B) (xs : List A) (i : ℕ) (x : A) (old whole : List B)
    → i < length xs → x ≡ get_or xs i x → old ++ flat_map part (drop i xs) ≡ whole
    → (old ++ part x) ++ flat_map part (drop (i + 1) xs) ≡ whole
joined_step {A} part xs i x old whole less is e =
    append_assoc old (part x) (flat_map part (drop (i + 1) xs))
    ∙ sym (ap (λ (l : List A). old ++ flat_map part l) (rest_first xs i x less is)) ∙ e

-- and in the end
pub joined_end : {A B : Type 0} (part : A → List B) (xs : List A) (i : ℕ) (old whole : List B) → length xs ≤ i
    → old ++ flat_map part (drop i xs) ≡ whole → old ≡ whole
joined_end {A} part xs i old whole past e =
    sym (append-nil old) ∙ sym (ap (λ (l : List A). old ++ flat_map part l) (drop_all i xs past)) ∙ e
