-- The bytes of the turns so far that go one way, with those of one turn more, and of all turns.
use Rattle.std.proofs.Common.{◌≡◌, ◌∙◌, ℕ, ◌+◌, ◌-◌, ◌<◌, ◌≤◌, List, [], ◌∷◌, ◌++◌, length, take, drop, map, min}
use Rattle.std.proofs.Common.{append-nil, arith, get_or, sym, ap, inl, inr}
use Rattle.std.proofs.lemmas.Bool.{cases_lt}
use Rattle.std.proofs.Math.ListN.{drop_of_length-le}
use Rattle.std.proofs.Math.Nat.{min-eq_left, min-eq_right}
use Rattle.std.proofs.Math.Seq.{drop-append-add}
use Rattle.std.proofs.lemmas.List.{drop-append-le, length-append, length-map, map-append, take_all, take_more}
use Rattle.std.proofs.lemmas.List.Folds.{concat-append}
use Rattle.std.specs.List.{concat, take-map}
use Rattle.ws_scripts.specs.declared.transcript.Turn.{Turn}

-- of the first turns, so many
abbrev pub bytes_before : (Turn → List ℕ) → List Turn → ℕ → List ℕ
bytes_before bytes_of turns i = concat (take i (map bytes_of turns))

-- one turn more
pub bytes_more : (bytes_of : Turn → List ℕ) (turns : List Turn) (i : ℕ) (turn : Turn) → i < length turns
    → turn ≡ get_or turns i turn → bytes_before bytes_of turns (i + 1) ≡ bytes_before bytes_of turns i ++ bytes_of turn
bytes_more bytes_of turns i turn less is =
    let before = take i (map bytes_of turns) in
    let more : take (i + 1) (map bytes_of turns) ≡ before ++ bytes_of turn ∷ [] =
    take-map bytes_of (i + 1) turns
    ∙ ap (λ (l : List Turn). map bytes_of l)
    (take_more turns i turn less ∙ ap (λ (t : Turn). take i turns ++ t ∷ []) (sym is))
    ∙ map-append bytes_of (take i turns) (turn ∷ [])
    ∙ ap (λ (l : List (List ℕ)). l ++ bytes_of turn ∷ []) (sym (take-map bytes_of i turns)) in
    ap (λ (l : List (List ℕ)). concat l) more ∙ concat-append before (bytes_of turn ∷ [])
    ∙ ap (λ (l : List ℕ). concat before ++ l) (append-nil (bytes_of turn))

pub length_more : (bytes_of : Turn → List ℕ) (turns : List Turn) (i : ℕ) (turn : Turn) → i < length turns
    → turn ≡ get_or turns i turn
    → length (bytes_before bytes_of turns (i + 1)) ≡ length (bytes_before bytes_of turns i) + length (bytes_of turn)
length_more bytes_of turns i turn less is =
    ap (λ (l : List ℕ). length l) (bytes_more bytes_of turns i turn less is)
    ∙ length-append (bytes_before bytes_of turns i) (bytes_of turn)

-- all turns
pub bytes_of_all : (bytes_of : Turn → List ℕ) (turns : List Turn) (i : ℕ) → length turns ≤ i
    → bytes_before bytes_of turns i ≡ concat (map bytes_of turns)
bytes_of_all bytes_of turns i all = ap (λ (l : List (List ℕ)). concat l)
    (take_all i (map bytes_of turns) (omega (arith, all, length-map turns bytes_of)))

-- all but the first bytes, of two lists one after the other
pub drop_more : (n : ℕ) (a b : List ℕ) → drop n (a ++ b) ≡ drop n a ++ drop (n - length a) b
drop_more n a b = elim (cases_lt (length a) n) [
  | inr early ↦
      let none : n - length a ≡ 0 = omega (arith, early) in
      drop-append-le n a b early ∙ ap (λ (k : ℕ). drop n a ++ drop k b) (sym none)
  | inl late ↦
      let k = n - length a in
      let n_is : n ≡ length a + k = omega (arith, late) in
      let past : length a ≤ n = omega (arith, late) in
      ap (λ (m : ℕ). drop m (a ++ b)) n_is ∙ drop-append-add a b k
      ∙ ap (λ (l : List ℕ). l ++ drop k b) (sym (drop_of_length-le a past))
]

-- no more are left out than there are
pub drop_least : (n m : ℕ) (l : List ℕ) → n ≡ min m (length l) → drop n l ≡ drop m l
drop_least n m l least = elim (cases_lt m (length l)) [
  | inl fewer ↦
      let at_most : m ≤ length l = omega (arith, fewer) in
      ap (λ (k : ℕ). drop k l) (least ∙ min-eq_left at_most)
  | inr all ↦
      let same : n ≡ length l = least ∙ min-eq_right all in
      let past : length l ≤ n = omega (arith, same) in
      drop_of_length-le l past ∙ sym (drop_of_length-le l all)
]
