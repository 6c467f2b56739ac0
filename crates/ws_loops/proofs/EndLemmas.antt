-- Which place ended first, of those in front of one.
use Rattle.std.proofs.Common.{◌≡◌, ◌∙◌, ℕ, ◌+◌, ◌<◌, ◌≤◌, ◌⊎◌, Bool, true, false, nat_le, List, length, Option, None}
use Rattle.std.proofs.Common.{Some}
use Rattle.std.proofs.Common.{sym, ap, subst, arith, inl, inr, if◌then◌else◌}
use Rattle.std.proofs.lemmas.Bool.{cases_eq}
use Rattle.std.proofs.lemmas.Bool.Decides.{leb_tells}
use Rattle.std.specs.List.{slice_get}
use Rattle.std.proofs.lemmas.Option.{none-some, same_Some, slice_get_within}
use Rattle.ws_loops.specs.Places.{IsFirstToEnd, NoneHasEnded, earlier_end}

-- of the first ones none has ended, or this one first
abbrev pub IsFirstBefore : List (Option ℕ) → ℕ → Option (ℕ × ℕ) → Type 0
IsFirstBefore tickets count None = (i t : ℕ) → i < count → slice_get tickets i ≡ Some (Some t) → ⊥
IsFirstBefore tickets count (Some first) = (slice_get tickets first.0 ≡ Some (Some first.1))
    × ((i t : ℕ) → i < count → slice_get tickets i ≡ Some (Some t) → first.1 ≤ t)

pub first_none : (tickets : List (Option ℕ)) → IsFirstBefore tickets 0 None
first_none tickets i t lt e = omega (arith, lt)

module _ (tickets : List (Option ℕ)) (at : ℕ) where
  same_place : (i t u : ℕ) → slice_get tickets at ≡ Some (Some u) → i ≡ at → slice_get tickets i ≡ Some (Some t)
      → t ≡ u
  same_place i t u is e there = same_Some t u (same_Some (Some t) (Some u) (sym there
      ∙ (ap (λ (n : ℕ). slice_get tickets n) e ∙ is)))

  pub first_next : (first : Option (ℕ × ℕ)) (ticket : Option ℕ) → slice_get tickets at ≡ Some ticket
      → IsFirstBefore tickets at first → IsFirstBefore tickets (at + 1) (earlier_end first at ticket)
  first_next None None is h = λ i t lt e. by i t lt e (cases_eq i at)
    where
      by : (i t : ℕ) → i < at + 1 → slice_get tickets i ≡ Some (Some t) → (i ≡ at) ⊎ (i ≡ at → ⊥) → ⊥
      by i t lt e (inl same) = none-some t (same_Some None (Some t) (sym is
          ∙ (ap (λ (n : ℕ). slice_get tickets n) (sym same) ∙ e)))
      by i t lt e (inr other) = h i t (omega (arith, lt, other)) e
  first_next (Some first) None is (there, h) = (there, λ i t lt e. by i t lt e (cases_eq i at))
    where
      by : (i t : ℕ) → i < at + 1 → slice_get tickets i ≡ Some (Some t) → (i ≡ at) ⊎ (i ≡ at → ⊥) → first.1 ≤ t
      by i t lt e (inl same) = absurd (none-some t (same_Some None (Some t) (sym is
          ∙ (ap (λ (n : ℕ). slice_get tickets n) (sym same) ∙ e))))
      by i t lt e (inr other) = h i t (omega (arith, lt, other)) e
  first_next None (Some ticket) is h = (is, λ i t lt e. by i t lt e (cases_eq i at))
    where
      by : (i t : ℕ) → i < at + 1 → slice_get tickets i ≡ Some (Some t) → (i ≡ at) ⊎ (i ≡ at → ⊥) → ticket ≤ t
      by i t lt e (inl same) = omega (arith, same_place i t ticket is same e)
      by i t lt e (inr other) = absurd (h i t (omega (arith, lt, other)) e)
  first_next (Some first) (Some ticket) is (there, h) = chosen (nat_le first.1 ticket) (leb_tells first.1 ticket)
    where
      chosen : (b : Bool) → ((nat_le first.1 ticket ≡ true) × (first.1 ≤ ticket))
          ⊎ ((nat_le first.1 ticket ≡ false) × (ticket < first.1))
          → IsFirstBefore tickets (at + 1) (earlier_end (Some first) at (Some ticket))
      chosen b (inl (so, le)) = subst (λ (c : Bool). IsFirstBefore tickets (at + 1)
          (if c then Some first else Some (at, ticket))) (sym so) (there, λ i t lt e. by i t lt e (cases_eq i at))
        where
          by : (i t : ℕ) → i < at + 1 → slice_get tickets i ≡ Some (Some t) → (i ≡ at) ⊎ (i ≡ at → ⊥) → first.1 ≤ t
          by i t lt e (inl same) = omega (arith, le, same_place i t ticket is same e)
          by i t lt e (inr other) = h i t (omega (arith, lt, other)) e
      chosen b (inr (differs, less)) = subst (λ (c : Bool). IsFirstBefore tickets (at + 1)
          (if c then Some first else Some (at, ticket))) (sym differs) (is, λ i t lt e. by i t lt e (cases_eq i at))
        where
          by : (i t : ℕ) → i < at + 1 → slice_get tickets i ≡ Some (Some t) → (i ≡ at) ⊎ (i ≡ at → ⊥) → ticket ≤ t
          by i t lt e (inl same) = omega (arith, same_place i t ticket is same e)
          by i t lt e (inr other) = omega (arith, less, h i t (omega (arith, lt, other)) e)

pub none_ended : (tickets : List (Option ℕ)) (at : ℕ) → length tickets ≤ at → IsFirstBefore tickets at None
    → NoneHasEnded tickets
none_ended tickets at past h i t e = h i t (omega (arith, past, slice_get_within tickets i (Some t) e)) e

pub one_ended : (tickets : List (Option ℕ)) (at : ℕ) (first : ℕ × ℕ) → length tickets ≤ at
    → IsFirstBefore tickets at (Some first) → IsFirstToEnd tickets first.0
one_ended tickets at first past (there, h) = (
  first.1,
  there,
  λ i u e. h i u (omega (arith, past, slice_get_within tickets i (Some u) e)) e,
)
