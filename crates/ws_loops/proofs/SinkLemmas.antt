-- What a sink took: nothing, one list of lines after the other, and of all the lines those of one place; and of which
-- places they are.
use Rattle.std.proofs.Common.{◌≡◌, ◌∙◌, ◌<◌, ℕ, zero, suc, arith, Bool, true, false, if◌then◌else◌, nat_eq, List, [], ◌∷◌, ◌++◌, refl, sym, ap}
use Rattle.std.proofs.Common.{subst, append_assoc, append-nil}
use Rattle.std.proofs.lemmas.Bool.{eq-eqb}
use Rattle.std.proofs.lemmas.Bool.Decides.{eqb_tells}
use Rattle.std.proofs.Common.{◌⊎◌, ◌≢◌, inl, inr}
use Rattle.ws_loops.specs.Sinks.{AreLinesOfPlaces, HasTakenLines, lines_at, said_at}

module _ {K : Type 0} (heard : K → K → List (ℕ × List ℕ) → Type 0) where
  pub put_nothing : (a : K) → HasTakenLines heard a a []
  put_nothing a = λ start taken x. subst (λ (l : List (ℕ × List ℕ)). heard start a l) (sym (append-nil taken)) x

  pub put_then : (a b c : K) (one other : List (ℕ × List ℕ)) → HasTakenLines heard a b one
      → HasTakenLines heard b c other
      → HasTakenLines heard a c (one ++ other)
  put_then a b c one other h k = λ start taken x. subst (λ (l : List (ℕ × List ℕ)). heard start c l)
      (append_assoc taken one other) (k start (taken ++ one) (h start taken x))

pub said_then : (at : ℕ) (one other : List (List ℕ)) → said_at at (one ++ other) ≡ said_at at one ++ said_at at other
said_then at [] other = refl
said_then at (l ∷ one) other = ap (λ (x : List (ℕ × List ℕ)). (at, l) ∷ x) (said_then at one other)

chosen_then : (b : Bool) (l : List ℕ) (one other : List (List ℕ))
    → (if b then l ∷ (one ++ other) else one ++ other) ≡ (if b then l ∷ one else one) ++ other
chosen_then true l one other = refl
chosen_then false l one other = refl

pub lines_then : (at : ℕ) (one other : List (ℕ × List ℕ))
    → lines_at at (one ++ other) ≡ lines_at at one ++ lines_at at other
lines_then at [] other = refl
lines_then at (x ∷ one) other =
    ap (λ (r : List (List ℕ)). if nat_eq x.0 at then x.1 ∷ r else r) (lines_then at one other)
    ∙ chosen_then (nat_eq x.0 at) x.1 (lines_at at one) (lines_at at other)

pub lines_own : (at : ℕ) (lines : List (List ℕ)) → lines_at at (said_at at lines) ≡ lines
lines_own at [] = refl
lines_own at (l ∷ lines) =
    ap (λ (b : Bool). if b then l ∷ lines_at at (said_at at lines) else lines_at at (said_at at lines))
    (eq-eqb at at refl) ∙ ap (λ (r : List (List ℕ)). l ∷ r) (lines_own at lines)

pub lines_other : (at i : ℕ) (lines : List (List ℕ)) → (at ≡ i → ⊥) → lines_at i (said_at at lines) ≡ []
lines_other at i [] h = refl
lines_other at i (l ∷ lines) h = by (lines_other at i lines h) (eqb_tells at i)
  where
    by : lines_at i (said_at at lines) ≡ []
        → ((nat_eq at i ≡ true) × (at ≡ i)) ⊎ ((nat_eq at i ≡ false) × (at ≢ i))
        → lines_at i (said_at at (l ∷ lines)) ≡ []
    by rest (inl same) = absurd (h same.1)
    by rest (inr other) =
        ap (λ (b : Bool). if b then l ∷ lines_at i (said_at at lines) else lines_at i (said_at at lines)) other.0 ∙ rest

-- what was taken of one place, behind what was taken so far
pub own_then : (at : ℕ) (all : List (ℕ × List ℕ)) (lines : List (List ℕ))
    → lines_at at (all ++ said_at at lines) ≡ lines_at at all ++ lines
own_then at all lines = lines_then at all (said_at at lines)
    ∙ ap (λ (l : List (List ℕ)). lines_at at all ++ l) (lines_own at lines)

pub other_then : (at i : ℕ) (all : List (ℕ × List ℕ)) (lines : List (List ℕ)) → (at ≡ i → ⊥)
    → lines_at i (all ++ said_at at lines) ≡ lines_at i all
other_then at i all lines h = lines_then i all (said_at at lines)
    ∙ (ap (λ (l : List (List ℕ)). lines_at i all ++ l) (lines_other at i lines h) ∙ append-nil (lines_at i all))

-- lines of so many places, and then some more; and those of one of them
pub within_then : (count : ℕ) (one other : List (ℕ × List ℕ)) → AreLinesOfPlaces count one
    → AreLinesOfPlaces count other → AreLinesOfPlaces count (one ++ other)
within_then count [] other h k = k
within_then count (x ∷ one) other (lt, h) k = (lt, within_then count one other h k)

pub said_within : (count at : ℕ) (lines : List (List ℕ)) → at < count → AreLinesOfPlaces count (said_at at lines)
said_within count at [] lt = tt
said_within count at (l ∷ lines) lt = (lt, said_within count at lines lt)

-- of one place alone all lines are its own
pub only_within : (all : List (ℕ × List ℕ)) → AreLinesOfPlaces 1 all → all ≡ said_at 0 (lines_at 0 all)
only_within [] h = refl
only_within ((at, l) ∷ all) (lt, h) = by at lt (only_within all h)
  where
    by : (n : ℕ) → n < 1 → all ≡ said_at 0 (lines_at 0 all) → (n, l) ∷ all ≡ said_at 0 (lines_at 0 ((n, l) ∷ all))
    by zero less rest = ap (λ (r : List (ℕ × List ℕ)). (0, l) ∷ r) rest
    by (suc n) less rest = absurd (omega (arith, less))
