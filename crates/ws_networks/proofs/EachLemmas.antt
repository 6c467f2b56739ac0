-- Lists of addresses of which the first ones were tried, and have taken no connection.
use Rattle.std.proofs.Common.{◌≡◌, ◌∙◌, ℕ, zero, suc, ◌+◌, ◌<◌, ◌≤◌, List, [], ◌∷◌, ◌++◌, length, take, drop}
use Rattle.std.proofs.Common.{refl, sym, ap, subst, append_assoc, append-nil, arith, if◌then◌else◌, nat_eq}
use Rattle.std.proofs.Common.{◌≢◌, ◌⊎◌, Bool, Some, true, false, inl, inr}
use Rattle.std.specs.List.{slice_get}
use Rattle.std.proofs.lemmas.Bool.Decides.{eqb_tells}
use Rattle.std.proofs.lemmas.Option.{none-some, same_Some}
use Rattle.ws_networks.specs.Networks.{NetworkDeed}
use Rattle.ws_networks.specs.Connecting.{AreMissed, IsMissedBetween, first_miss}
use Rattle.ws_networks.specs.declared.bounds.Bounds.{Bounds}
use Rattle.ws_networks.specs.declared.dialing.Missed.{Missed}

module _ {X : Type 0} where
  -- what is in front of an item, the item, and what is behind it
  pub parts_at : (xs : List X) (i : ℕ) (x : X) → slice_get xs i ≡ Some x → xs ≡ take i xs ++ x ∷ drop (suc i) xs
  parts_at [] i x e = absurd (none-some x e)
  parts_at (y ∷ xs) zero x e = ap (λ (z : X). z ∷ xs) (same_Some y x e)
  parts_at (y ∷ xs) (suc i) x e = ap (λ (l : List X). y ∷ l) (parts_at xs i x e)

  pub take_one : (xs : List X) (i : ℕ) (x : X) → slice_get xs i ≡ Some x → take (suc i) xs ≡ take i xs ++ x ∷ []
  take_one [] i x e = absurd (none-some x e)
  take_one (y ∷ xs) zero x e = ap (λ (z : X). z ∷ []) (same_Some y x e)
  take_one (y ∷ xs) (suc i) x e = ap (λ (l : List X). y ∷ l) (take_one xs i x e)

  pub take_each : (xs : List X) (i : ℕ) → length xs ≤ i → take i xs ≡ xs
  take_each [] zero h = refl
  take_each [] (suc i) h = refl
  take_each (x ∷ xs) zero h = absurd (omega (arith, h))
  take_each (x ∷ xs) (suc i) h = ap (λ (l : List X). x ∷ l) (take_each xs i (omega (arith, h)))

pub one_behind : (n : ℕ) → suc n ≡ n + 1
one_behind n = omega arith

-- one more has taken no connection
pub missed_more : {A W : Type 0} (at : ℕ) (bounds : Bounds) (from mid to : ℕ) (before : List A) (address : A)
    (misses : List (Missed W)) (why : Missed W) (deeds one : List (NetworkDeed A W))
    → AreMissed at bounds from mid before misses deeds → IsMissedBetween at bounds mid to address why one
    → AreMissed at bounds from to (before ++ address ∷ []) (misses ++ why ∷ []) (deeds ++ one)
missed_more {A} {W} at bounds from mid to [] address [] why deeds one (h, e) (since, now, a, b, c, m) = (
  to,
  one,
  [],
  ap (λ (l : List (NetworkDeed A W)). l ++ one) e ∙ sym (append-nil one),
  (since, now, omega (arith, h, a), b, c, m),
  (omega arith, refl),
)
missed_more at bounds from mid to [] address (other ∷ misses) why deeds one h k = absurd h
missed_more at bounds from mid to (x ∷ before) address [] why deeds one h k = absurd h
missed_more {A} {W} at bounds from mid to (x ∷ before) address (other ∷ misses) why deeds one
    (t, first, rest, e, m, others) k = (
      t,
      first,
      rest ++ one,
      ap (λ (l : List (NetworkDeed A W)). l ++ one) e ∙ append_assoc first rest one,
      m,
      missed_more at bounds t mid to before address misses why rest one others k,
    )

-- the reason that is told once one more has taken none
pub first_so : {A W : Type 0} (at : ℕ) (bounds : Bounds) (from to : ℕ) (addresses : List A) (n : ℕ)
    (misses : List (Missed W)) (deeds : List (NetworkDeed A W)) (why told : Missed W) → n < length addresses
    → AreMissed at bounds from to (take n addresses) misses deeds → told ≡ first_miss misses
    → (if nat_eq n 0 then why else told) ≡ first_miss (misses ++ why ∷ [])
first_so at bounds from to addresses zero [] deeds why told h k e = refl
first_so at bounds from to addresses zero (m ∷ misses) deeds why told h k e = absurd k
first_so at bounds from to [] (suc n) misses deeds why told h k e = absurd (omega (arith, h))
first_so at bounds from to (x ∷ addresses) (suc n) [] deeds why told h k e = absurd k
first_so at bounds from to (x ∷ addresses) (suc n) (m ∷ misses) deeds why told h k e = by (eqb_tells (suc n) 0)
  where
    by : ((nat_eq (suc n) 0 ≡ true) × (suc n ≡ 0)) ⊎ ((nat_eq (suc n) 0 ≡ false) × (suc n ≢ 0))
        → (if nat_eq (suc n) 0 then why else told) ≡ m
    by (inl same) = absurd (omega (arith, same.1))
    by (inr other) = subst (λ (b : Bool). (if b then why else told) ≡ m) (sym other.0) e

-- none has taken one until a later time
pub missed_until : {A W : Type 0} (at : ℕ) (bounds : Bounds) (from to later : ℕ) (addresses : List A)
    (misses : List (Missed W)) (deeds : List (NetworkDeed A W)) → to ≤ later
    → AreMissed at bounds from to addresses misses deeds → AreMissed at bounds from later addresses misses deeds
missed_until at bounds from to later [] [] deeds le (h, e) = (omega (arith, le, h), e)
missed_until at bounds from to later [] (why ∷ misses) deeds le h = absurd h
missed_until at bounds from to later (x ∷ addresses) [] deeds le h = absurd h
missed_until at bounds from to later (x ∷ addresses) (why ∷ misses) deeds le (mid, one, rest, e, m, others) =
    (mid, one, rest, e, m, missed_until at bounds mid to later addresses misses rest le others)
