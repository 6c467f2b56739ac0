-- Each address of a list is listened at, one after the other, until one can be.
use Rattle.std.proofs.Common.{◌≡◌, ◌∙◌, ℕ, zero, suc, ◌+◌, ◌<◌, ◌≤◌, List, [], ◌∷◌, ◌++◌, length, take, drop}
use Rattle.std.proofs.Common.{Some, refl, sym, ap, subst, arith, if◌then◌else◌, nat_eq, map}
use Rattle.std.proofs.Common.{◌≢◌, ◌⊎◌, Bool, true, false, inl, inr, Result, Ok, Err, MatchResult}
use Rattle.std.specs.List.{slice_get}
use Rattle.std.proofs.lemmas.Bool.Decides.{eqb_tells}
use Rattle.ws_networks.specs.Networks.{HasAdded, NetworkDeed}
use Rattle.ws_networks.specs.Networks.NetworkDeed.{Bound, Found, NotBound, NotFound}
use Rattle.ws_networks.specs.Listening.{CannotListen, HasAddedSome, Listens, NoneBound, OneBound, addresses_of}
use Rattle.ws_networks.specs.Listening.{first_refusal, refusals}
use Rattle.ws_networks.specs.declared.listening.Unheard.{Unheard}
use Rattle.ws_networks.specs.declared.listening.Unheard.TheVariants.{Failed, NoAddress}
use Rattle.ws_networks.proofs.AddLemmas.{added_none, added_then}
use Rattle.ws_networks.proofs.EachLemmas.{parts_at, take_each, take_one}

map_append : {X Y : Type 0} (f : X → Y) (xs ys : List X) → map f (xs ++ ys) ≡ map f xs ++ map f ys
map_append f [] ys = refl
map_append {X} {Y} f (x ∷ xs) ys = ap (λ (l : List Y). f x ∷ l) (map_append f xs ys)

-- of what came of it, by what it is
pub match_so : {X Y : Type 0} (P P2 : X → Type 0) (Q Q2 : Y → Type 0) → ((x : X) → P x → P2 x)
    → ((y : Y) → Q y → Q2 y) → (r : Result X Y) → MatchResult r P Q → MatchResult r P2 Q2
match_so P P2 Q Q2 f g (Ok x) h = f x h
match_so P P2 Q Q2 f g (Err y) h = g y h

one_behind : (n : ℕ) → suc n ≡ n + 1
one_behind n = omega arith

module _ {A W N : Type 0} (did : N → N → List (NetworkDeed A W) → Type 0) where
  -- those in front of this place could not be listened at, and this reason is told
  pub record RefusedSoFar (old now : N) (addresses : List A) (tried : ℕ) (why : Unheard W) : Type 0 where
    pub refused : List (A × W)
    pub parts : take tried addresses ≡ addresses_of refused
    pub done : HasAdded did old now (refusals refused)
    pub first : why ≡ first_refusal refused

  pub none_refused : (old : N) (addresses : List A) → RefusedSoFar old old addresses 0 NoAddress
  none_refused old addresses = record {
    refused = [];
    parts = refl;
    done = added_none did old;
    first = refl;
  }

  -- the reason that is told once one more can't be
  first_so : (addresses : List A) (tried : ℕ) (refused : List (A × W)) (address : A) (why : W) (told : Unheard W)
      → tried < length addresses → take tried addresses ≡ addresses_of refused → told ≡ first_refusal refused
      → (if nat_eq tried 0 then Failed why else told) ≡ first_refusal (refused ++ (address, why) ∷ [])
  first_so addresses zero [] address why told h k e = refl
  first_so [] zero (r ∷ refused) address why told h k e = absurd (omega (arith, h))
  first_so (x ∷ addresses) zero (r ∷ refused) address why told h k e = absurd (nil-not-cons k)
    where
      nil-not-cons : {X : Type 0} {y : X} {ys : List X} → [] ≡ y ∷ ys → ⊥
      nil-not-cons e = absurd (omega (arith, ap length e))
  first_so [] (suc tried) refused address why told h k e = absurd (omega (arith, h))
  first_so (x ∷ addresses) (suc tried) [] address why told h k e = absurd (omega (arith, ap length k))
  first_so (x ∷ addresses) (suc tried) (r ∷ refused) address why told h k e = by (eqb_tells (suc tried) 0)
    where
      by : ((nat_eq (suc tried) 0 ≡ true) × (suc tried ≡ 0)) ⊎ ((nat_eq (suc tried) 0 ≡ false) × (suc tried ≢ 0))
          → (if nat_eq (suc tried) 0 then Failed why else told) ≡ Failed r.1
      by (inl same) = absurd (omega (arith, same.1))
      by (inr other) = subst (λ (b : Bool). (if b then Failed why else told) ≡ Failed r.1) (sym other.0) e

  pub one_refused : (old now new : N) (addresses : List A) (tried : ℕ) (address : A) (told first : Unheard W) (why : W)
      → tried < length addresses → slice_get addresses tried ≡ Some address
      → first ≡ (if nat_eq tried 0 then Failed why else told) → RefusedSoFar old now addresses tried told
      → HasAdded did now new (NotBound address why ∷ []) → RefusedSoFar old new addresses (tried + 1) first
  one_refused old now new addresses tried address told first why lt is so sofar more = record {
    refused = sofar.refused ++ (address, why) ∷ [];
    parts = subst (λ (n : ℕ). take n addresses ≡ addresses_of (sofar.refused ++ (address, why) ∷ []))
        (one_behind tried) (take_one addresses tried address is
        ∙ (ap (λ (l : List A). l ++ address ∷ []) sofar.parts
        ∙ sym (map_append (λ (x : A × W). x.0) sofar.refused ((address, why) ∷ []))));
    done = subst (λ (l : List (NetworkDeed A W)). HasAdded did old new l)
        (sym (map_append (λ (x : A × W). NotBound x.0 x.1) sofar.refused ((address, why) ∷ [])))
        (added_then did old now new (refusals sofar.refused) (NotBound address why ∷ []) sofar.done more);
    first = so ∙ first_so addresses tried sofar.refused address why told lt sofar.parts sofar.first;
  }

  -- this one is listened at
  pub bound_at : (old now new : N) (addresses : List A) (tried : ℕ) (address : A) (told : Unheard W)
      → slice_get addresses tried ≡ Some address → RefusedSoFar old now addresses tried told
      → HasAdded did now new (Bound address ∷ []) → HasAddedSome did old new (OneBound addresses)
  bound_at old now new addresses tried address told is sofar more = (
    refusals sofar.refused ++ Bound address ∷ [],
    added_then did old now new (refusals sofar.refused) (Bound address ∷ []) sofar.done more,
    record {
      refused = sofar.refused;
      address = address;
      after = drop (suc tried) addresses;
      parts = parts_at addresses tried address is
          ∙ ap (λ (l : List A). l ++ address ∷ drop (suc tried) addresses) sofar.parts;
      tried = refl;
    },
  )

  -- none is
  pub none_bound : (old new : N) (addresses : List A) (tried : ℕ) (why : Unheard W) → length addresses ≤ tried
      → RefusedSoFar old new addresses tried why → HasAddedSome did old new (NoneBound addresses why)
  none_bound old new addresses tried why past sofar = (
    refusals sofar.refused,
    sofar.done,
    record {
      refused = sofar.refused;
      parts = sym (take_each addresses tried past) ∙ sofar.parts;
      tried = refl;
      first = sofar.first;
    },
  )

  -- the addresses of a name were tried, or it has none
  pub listens_so : (old mid new : N) (name : List ℕ) (addresses slice : List A) → slice ≡ addresses
      → HasAdded did old mid (Found name addresses ∷ []) → HasAddedSome did mid new (OneBound slice)
      → HasAddedSome did old new (Listens name)
  listens_so old mid new name addresses slice same found (tries, h, one) = (
    Found name addresses ∷ tries,
    added_then did old mid new (Found name addresses ∷ []) tries found h,
    (addresses, tries, refl, subst (λ (l : List A). OneBound l tries) same one),
  )

  pub refused_so : (old mid new : N) (name : List ℕ) (addresses slice : List A) (why : Unheard W) → slice ≡ addresses
      → HasAdded did old mid (Found name addresses ∷ []) → HasAddedSome did mid new (NoneBound slice why)
      → HasAddedSome did old new (CannotListen name why)
  refused_so old mid new name addresses slice why same found (tries, h, none) = (
    Found name addresses ∷ tries,
    added_then did old mid new (Found name addresses ∷ []) tries found h,
    inr (addresses, tries, refl, subst (λ (l : List A). NoneBound l why tries) same none),
  )

  pub nameless_so : (old new : N) (name : List ℕ) (cause : W) → HasAdded did old new (NotFound name cause ∷ [])
      → HasAddedSome did old new (CannotListen name (Failed cause))
  nameless_so old new name cause h = (NotFound name cause ∷ [], h, inl (cause, refl, refl))
