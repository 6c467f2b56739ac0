-- A list of which one place is changed, and two lists of which each place has to do with the other's.
use Rattle.std.proofs.Common.{◌≡◌, ◌∙◌, ℕ, zero, suc, ◌+◌, ◌<◌, ◌≤◌, ◌⊎◌, ◌≢◌, List, [], ◌∷◌, ◌++◌, length, true, false}
use Rattle.std.proofs.Common.{Bool, Option, Some, None, nat_eq, slice_set, take, refl, sym, ap, subst, inl, inr, arith}
use Rattle.std.proofs.lemmas.Bool.{cases_eq, false≢true}
use Rattle.std.proofs.lemmas.Bool.Decides.{eqb_tells}
use Rattle.std.specs.List.{slice_get}
use Rattle.std.proofs.lemmas.Option.{none-some, same_Some, slice_get_read, slice_get_within}
use Rattle.std.proofs.Common.{is_some, slice_index_or}
use Rattle.ws_loops.specs.Loops.{AtEachPlace, HasAll, IsFrom}
use Rattle.ws_machines.specs.Machines.{Wants}
use Rattle.ws_loops.specs.Places.{AreOccupied, IsFirstFree, IsPlaceOver, Kind, StayOfKind, is_empty, is_stirred}
use Rattle.ws_loops.specs.Places.{place_kind}
use Rattle.ws_loops.specs.Places.Kind.{Nothing, Slotted, UnderWay}
use Rattle.ws_loops.specs.declared.places.Place.{Place}
use Rattle.ws_loops.specs.declared.places.Place.TheVariants.{Empty, Open, Pending, Broken}
use Rattle.ws_loops.specs.Sinks.{AreLinesOfPlaces, lines_at}
use Rattle.ws_loops.proofs.SinkLemmas.{lines_then, put_then, within_then}

module _ {X : Type 0} where
  pub get_set_same : (xs : List X) (i : ℕ) (y : X) → i < length xs → slice_get (slice_set xs i y) i ≡ Some y
  get_set_same [] i y h = absurd (omega (arith, h))
  get_set_same (x ∷ xs) zero y h = refl
  get_set_same (x ∷ xs) (suc i) y h = get_set_same xs i y (omega (arith, h))

  pub get_set_other : (xs : List X) (i j : ℕ) (y : X) → (j ≡ i → ⊥)
      → slice_get (slice_set xs i y) j ≡ slice_get xs j
  get_set_other [] i j y h = refl
  get_set_other (x ∷ xs) zero zero y h = absurd (h refl)
  get_set_other (x ∷ xs) zero (suc j) y h = refl
  get_set_other (x ∷ xs) (suc i) zero y h = refl
  get_set_other (x ∷ xs) (suc i) (suc j) y h =
      get_set_other xs i j y (λ e. h (ap (λ (n : ℕ). suc n) e))

  pub length_set : (xs : List X) (i : ℕ) (y : X) → length (slice_set xs i y) ≡ length xs
  length_set [] i y = refl
  length_set (x ∷ xs) zero y = refl
  length_set (x ∷ xs) (suc i) y = ap (λ (n : ℕ). suc n) (length_set xs i y)

  -- what was there is put there again
  pub set_same : (xs : List X) (i : ℕ) (x : X) → slice_get xs i ≡ Some x → slice_set xs i x ≡ xs
  set_same [] i x e = absurd (none-some x e)
  set_same (y ∷ xs) zero x e = ap (λ (z : X). z ∷ xs) (sym (same_Some y x e))
  set_same (y ∷ xs) (suc i) x e = ap (λ (l : List X). y ∷ l) (set_same xs i x e)

  -- what is put twice is put once
  pub set_twice : (xs : List X) (i : ℕ) (x y : X) → slice_set (slice_set xs i x) i y ≡ slice_set xs i y
  set_twice [] i x y = refl
  set_twice (z ∷ xs) zero x y = refl
  set_twice (z ∷ xs) (suc i) x y = ap (λ (l : List X). z ∷ l) (set_twice xs i x y)

  -- there is something at each place of the list
  pub place_of : (xs : List X) (i : ℕ) → i < length xs → (x : X) × (slice_get xs i ≡ Some x)
  place_of [] i h = absurd (omega (arith, h))
  place_of (x ∷ xs) zero h = (x, refl)
  place_of (x ∷ xs) (suc i) h = place_of xs i (omega (arith, h))

  -- what is at a place of a list of which one was changed: what was put, or what was there
  pub set_cases : (xs : List X) (i : ℕ) (y : X) (j : ℕ) (z : X) → slice_get (slice_set xs i y) j ≡ Some z
      → ((j ≡ i) × (z ≡ y)) ⊎ ((j ≡ i → ⊥) × (slice_get xs j ≡ Some z))
  set_cases xs i y j z e = by (eqb_tells j i)
    where
      by : ((nat_eq j i ≡ true) × (j ≡ i)) ⊎ ((nat_eq j i ≡ false) × (j ≢ i))
          → ((j ≡ i) × (z ≡ y)) ⊎ ((j ≡ i → ⊥) × (slice_get xs j ≡ Some z))
      by (inl same) =
          let there : slice_get (slice_set xs i y) i ≡ Some z =
          subst (λ (n : ℕ). slice_get (slice_set xs i y) n ≡ Some z) same.1 e in
          let within : i < length xs =
          subst (λ (n : ℕ). i < n) (length_set xs i y) (slice_get_within (slice_set xs i y) i z there) in
          inl (same.1, same_Some z y (sym there ∙ get_set_same xs i y within))
      by (inr other) = inr (other.1, sym (get_set_other xs i j y other.1) ∙ e)

  -- a list and one more: what was there is there
  pub get_front : (xs : List X) (y : X) (i : ℕ) (x : X) → slice_get xs i ≡ Some x
      → slice_get (xs ++ y ∷ []) i ≡ Some x
  get_front [] y i x e = absurd (none-some x e)
  get_front (z ∷ xs) y zero x e = e
  get_front (z ∷ xs) y (suc i) x e = get_front xs y i x e

  pub get_last : (xs : List X) (y : X) → slice_get (xs ++ y ∷ []) (length xs) ≡ Some y
  get_last [] y = refl
  get_last (x ∷ xs) y = get_last xs y

  pub push_cases : (xs : List X) (y : X) (i : ℕ) (x : X) → slice_get (xs ++ y ∷ []) i ≡ Some x
      → (slice_get xs i ≡ Some x) ⊎ (x ≡ y)
  push_cases [] y zero x e = inr (sym (same_Some y x e))
  push_cases [] y (suc i) x e = absurd (none-some x e)
  push_cases (z ∷ xs) y zero x e = inl e
  push_cases (z ∷ xs) y (suc i) x e = push_cases xs y i x e

  -- a list and one more like all of it
  pub length_more : (xs ys : List X) (y : X) → ys ≡ xs ++ y ∷ [] → length ys ≡ length xs + 1
  length_more xs ys y e = ap (λ (l : List X). length l) e ∙ length_last xs y
    where
      length_last : (l : List X) (x : X) → length (l ++ x ∷ []) ≡ length l + 1
      length_last [] x = refl
      length_last (z ∷ l) x = omega (arith, length_last l x)

  pub all_like_more : (xs ys : List X) (y : X) → ys ≡ xs ++ y ∷ []
      → ((i : ℕ) (x : X) → slice_get xs i ≡ Some x → x ≡ y) → (i : ℕ) (x : X) → slice_get ys i ≡ Some x → x ≡ y
  all_like_more xs ys y e h i x is = by (push_cases xs y i x (subst (λ (l : List X). slice_get l i ≡ Some x) e is))
    where
      by : (slice_get xs i ≡ Some x) ⊎ (x ≡ y) → x ≡ y
      by (inl was) = h i x was
      by (inr same) = same

  -- what there is of something that may be none
  pub some_of : (o : Option X) → is_some o ≡ true → (x : X) × (o ≡ Some x)
  some_of None h = absurd (false≢true h)
  some_of (Some x) h = (x, refl)

  pub none_of : (o : Option X) → is_some o ≡ false → o ≡ None
  none_of None h = refl
  none_of (Some x) h = absurd (false≢true (sym h))

  -- what was read at a place
  pub read_place : (xs : List X) (i : ℕ) (x y : X) → i < length xs → x ≡ slice_index_or xs i x → y ≡ x
      → slice_get xs i ≡ Some y
  read_place xs i x y lt is same =
      slice_get_read xs (length xs) i x refl lt is ∙ ap (λ (z : X). Some z) (sym same)

-- what is at a place of the front of a list
pub get_take : {X : Type 0} (n k : ℕ) (xs : List X) → k < n → slice_get (take n xs) k ≡ slice_get xs k
get_take zero k xs h = absurd (omega (arith, h))
get_take (suc n) k [] h = refl
get_take (suc n) zero (x ∷ xs) h = refl
get_take (suc n) (suc k) (x ∷ xs) h = get_take n k xs (omega (arith, h))

-- so many of a list that has no fewer
pub front_len : {X : Type 0} (n : ℕ) (xs : List X) → n ≤ length xs → length (take n xs) ≡ n
front_len zero xs h = refl
front_len (suc n) [] h = absurd (omega (arith, h))
front_len (suc n) (x ∷ xs) h = ap (λ (m : ℕ). suc m) (front_len n xs (omega (arith, h)))

-- numbers that are in a list are in it behind one more, and so is that one
pub from_front : (xs : List ℕ) (y i : ℕ) → IsFrom xs 0 i → IsFrom (xs ++ y ∷ []) 0 i
from_front xs y i (j, le, e) = (j, le, get_front xs y j i e)

pub from_last : (xs : List ℕ) (y : ℕ) → IsFrom (xs ++ y ∷ []) 0 y
from_last xs y = (length xs, omega arith, get_last xs y)

-- ---- two lists, each place with the other's

-- what holds of each place, and then of each again
pub then_at_each : {X K : Type 0} (heard : K → K → List (ℕ × List ℕ) → Type 0)
    (R Q P : ℕ → X → X → List (List ℕ) → Type 0)
    → ((i : ℕ) (x y z : X) (one other : List (List ℕ)) → R i x y one → Q i y z other → P i x z (one ++ other))
    → (old mid new : List X) (s t u : K) → AtEachPlace heard R old mid s t → AtEachPlace heard Q mid new t u
    → AtEachPlace heard P old new s u
then_at_each {X} heard R Q P trans old mid new s t u h k = record {
  len = k.len ∙ h.len;
  all = h.all ++ k.all;
  put = put_then heard s t u h.all k.all h.put k.put;
  within = within_then (length old) h.all k.all h.within
      (subst (λ (n : ℕ). AreLinesOfPlaces n k.all) h.len k.within);
  each = λ i x z was is. through i x z was is (place_of mid i (omega (arith, h.len, slice_get_within old i x was)));
}
  where
    through : (i : ℕ) (x z : X) → slice_get old i ≡ Some x → slice_get new i ≡ Some z
        → (y : X) × (slice_get mid i ≡ Some y) → P i x z (lines_at i (h.all ++ k.all))
    through i x z was is (y, at) = subst (λ (l : List (List ℕ)). P i x z l) (sym (lines_then i h.all k.all))
        (trans i x y z (lines_at i h.all) (lines_at i k.all) (h.each i x y was at) (k.each i y z at is))

-- what holds of each place and implies another thing
pub each_so : {X K : Type 0} (heard : K → K → List (ℕ × List ℕ) → Type 0)
    (R Q : ℕ → X → X → List (List ℕ) → Type 0) (old new : List X) (s t : K)
    → ((i : ℕ) (x y : X) (lines : List (List ℕ)) → slice_get old i ≡ Some x → slice_get new i ≡ Some y
    → R i x y lines → Q i x y lines)
    → AtEachPlace heard R old new s t → AtEachPlace heard Q old new s t
each_so heard R Q old new s t f h = record {
  len = h.len;
  all = h.all;
  put = h.put;
  within = h.within;
  each = λ i x y was is. f i x y (lines_at i h.all) was is (h.each i x y was is);
}

-- ---- each place is of the kind that it was

abbrev is_nothing : Kind → Bool
is_nothing Nothing = true
is_nothing Slotted = false
is_nothing (UnderWay until) = false

nothing_is : {kind : Kind} → Nothing ≡ kind → is_nothing kind ≡ false → ⊥
nothing_is e other = false≢true (sym other ∙ ap is_nothing (sym e))

module _ {M S : Type 0} where
  pub kinds_same : (places : List (Place M S)) → StayOfKind places places
  kinds_same places = record {
    len = refl;
    each = λ i x y was is. ap place_kind (same_Some y x (sym is ∙ was));
    stirred = λ i x y was is e. ap is_stirred (same_Some y x (sym is ∙ was)) ∙ e;
  }

  pub kinds_then : (a b c : List (Place M S)) → StayOfKind a b → StayOfKind b c → StayOfKind a c
  kinds_then a b c h k = record {
    len = k.len ∙ h.len;
    each = λ i x z was is. through i x z was is (between i x was);
    stirred = λ i x z was is e. stays i x z was is e (between i x was);
  }
    where
      between : (i : ℕ) (x : Place M S) → slice_get a i ≡ Some x → (y : Place M S) × (slice_get b i ≡ Some y)
      between i x was = place_of b i (omega (arith, h.len, slice_get_within a i x was))

      through : (i : ℕ) (x z : Place M S) → slice_get a i ≡ Some x → slice_get c i ≡ Some z
          → (y : Place M S) × (slice_get b i ≡ Some y) → place_kind z ≡ place_kind x
      through i x z was is (y, mid) = k.each i y z mid is ∙ h.each i x y was mid

      stays : (i : ℕ) (x z : Place M S) → slice_get a i ≡ Some x → slice_get c i ≡ Some z → is_stirred x ≡ true
          → (y : Place M S) × (slice_get b i ≡ Some y) → is_stirred z ≡ true
      stays i x z was is e (y, mid) = k.stirred i y z mid is (h.stirred i x y was mid e)

  -- one that was stirred is over
  stirred_over : (wants : M → Wants) (x : Place M S) → is_stirred x ≡ true → IsPlaceOver wants x
  stirred_over wants Empty e = absurd (false≢true e)
  stirred_over wants (Open slot) e = absurd (false≢true e)
  stirred_over wants (Pending watch) e = e
  stirred_over wants Broken e = tt

  -- one that was not over stands there anew
  pub kinds_set : (wants : M → Wants) (places : List (Place M S)) (at : ℕ) (x y : Place M S)
      → slice_get places at ≡ Some x → (IsPlaceOver wants x → ⊥) → place_kind y ≡ place_kind x
      → StayOfKind places (slice_set places at y)
  kinds_set wants places at x y there going same = record {
    len = length_set places at y;
    each = λ i u v was is. by i u v was (set_cases places at y i v is);
    stirred = λ i u v was is e. stays i u v was e (set_cases places at y i v is);
  }
    where
      stays : (i : ℕ) (u v : Place M S) → slice_get places i ≡ Some u → is_stirred u ≡ true
          → ((i ≡ at) × (v ≡ y)) ⊎ ((i ≡ at → ⊥) × (slice_get places i ≡ Some v)) → is_stirred v ≡ true
      stays i u v was e (inl (here, is_y)) = absurd (going (stirred_over wants x (ap is_stirred (same_Some x u
          (sym there ∙ (ap (λ (n : ℕ). slice_get places n) (sym here) ∙ was))) ∙ e)))
      stays i u v was e (inr (_, is)) = ap is_stirred (same_Some v u (sym is ∙ was)) ∙ e

      by : (i : ℕ) (u v : Place M S) → slice_get places i ≡ Some u
          → ((i ≡ at) × (v ≡ y)) ⊎ ((i ≡ at → ⊥) × (slice_get places i ≡ Some v)) → place_kind v ≡ place_kind u
      by i u v was (inl (e, is_y)) = ap place_kind is_y ∙ (same ∙ ap place_kind (same_Some x u (sym there
          ∙ (ap (λ (n : ℕ). slice_get places n) (sym e) ∙ was))))
      by i u v was (inr (_, is)) = ap place_kind (same_Some v u (sym is ∙ was))

  -- where something stood, something stands
  pub still_taken : (x y : Place M S) → place_kind y ≡ place_kind x → is_empty x ≡ false → is_empty y ≡ false
  still_taken x Empty same some = by x same some
    where
      by : (p : Place M S) → Nothing ≡ place_kind p → is_empty p ≡ false → true ≡ false
      by Empty e h = h
      by (Open slot) e h = absurd (nothing_is e refl)
      by (Pending watch) e h = absurd (nothing_is e refl)
      by Broken e h = absurd (nothing_is e refl)
  still_taken x (Open slot) same some = refl
  still_taken x (Pending watch) same some = refl
  still_taken x Broken same some = refl

  -- one more place in which something stands
  pub occupied_more : (places : List (Place M S)) (at : ℕ) (x : Place M S) → AreOccupied places at
      → slice_get places at ≡ Some x → is_empty x ≡ false → AreOccupied places (at + 1)
  occupied_more places at x h there some i place lt is = by (cases_eq i at)
    where
      by : (i ≡ at) ⊎ (i ≡ at → ⊥) → is_empty place ≡ false
      by (inl e) = subst (λ (p : Place M S). is_empty p ≡ false) (same_Some x place (sym there
          ∙ subst (λ (n : ℕ). slice_get places n ≡ Some place) e is)) some
      by (inr other) = h i place (omega (arith, lt, other)) is

  pub empty_is : (x : Place M S) → is_empty x ≡ true → x ≡ Empty
  empty_is Empty e = refl
  empty_is (Open slot) e = absurd (false≢true e)
  empty_is (Pending watch) e = absurd (false≢true e)
  empty_is Broken e = absurd (false≢true e)

  -- this place is the first that is empty
  pub first_free_here : (places : List (Place M S)) (at : ℕ) (x : Place M S) → AreOccupied places at
      → slice_get places at ≡ Some x → is_empty x ≡ true → IsFirstFree places at
  first_free_here places at x h there none = record {
    within = omega (arith, slice_get_within places at x there);
    empty = λ place is. same_Some place x (sym is ∙ there) ∙ empty_is x none;
    first = h;
  }

  -- or none is
  pub first_free_past : (places : List (Place M S)) (at : ℕ) → AreOccupied places at → at ≤ length places
      → length places ≤ at → IsFirstFree places at
  first_free_past places at h within past = record {
    within = within;
    empty = λ place is. absurd (omega (arith, past, slice_get_within places at place is));
    first = h;
  }

  -- one more place in which nothing stands
  pub empty_more : (places : List (Place M S)) (at : ℕ) (x : Place M S)
      → ((i : ℕ) (place : Place M S) → i < at → slice_get places i ≡ Some place → place ≡ Empty)
      → slice_get places at ≡ Some x → x ≡ Empty
      → (i : ℕ) (place : Place M S) → i < at + 1 → slice_get places i ≡ Some place → place ≡ Empty
  empty_more places at x h there none i place lt is = by (cases_eq i at)
    where
      by : (i ≡ at) ⊎ (i ≡ at → ⊥) → place ≡ Empty
      by (inl e) = same_Some place x (sym is ∙ (ap (λ (n : ℕ). slice_get places n) e ∙ there)) ∙ none
      by (inr other) = h i place (omega (arith, lt, other)) is

-- one more number behind all below it
pub all_more : (list : List ℕ) (count : ℕ) → HasAll list count → HasAll (list ++ count ∷ []) (count + 1)
all_more list count h i lt = by (cases_eq i count)
  where
    by : (i ≡ count) ⊎ (i ≡ count → ⊥) → IsFrom (list ++ count ∷ []) 0 i
    by (inl e) = subst (λ (n : ℕ). IsFrom (list ++ count ∷ []) 0 n) (sym e) (from_last list count)
    by (inr other) = from_front list count i (h i (omega (arith, lt, other)))
