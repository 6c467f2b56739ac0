-- What stands at the place of a name is changed; or, if the name has no place, a new one comes last.
use Rattle.std.proofs.Common.{◌≡◌, ◌∙◌, ℕ, zero, suc, ◌<◌, Bool, true, false, cond, List, [], ◌∷◌, ◌++◌, length, Option}
use Rattle.std.proofs.Common.{None, Some, Result, Ok, Err, OnOk, map, find, get_or, ap, sym, refl, arith, if◌then◌else◌}
use Rattle.std.specs.Option.{option_map}
use Rattle.std.specs.Prelude.{slice_set}
use Rattle.std.specs.Str.{bytes_eq}
use Rattle.ws_runs.specs.Names.{place_among, put_where}

none_of : (o : Option ℕ) → option_map suc o ≡ None → o ≡ None
none_of None g = refl
none_of (Some n) g = absurd cc

module _ {X : Type 0} (key : X → List ℕ) (name : List ℕ) where
  suc_of : (o : Option ℕ) (place : ℕ) → option_map suc o ≡ Some place → (before : ℕ) × (o ≡ Some before) × (place ≡ suc before)
  suc_of None place e = absurd cc
  suc_of (Some before) place e = (before, refl, let same : suc before ≡ place = cc in sym same)

  -- the place is one of the list
  pub place_within : (xs : List X) (place : ℕ) → place_among name (map key xs) ≡ Some place → place < length xs
  place_within [] place e = absurd cc
  place_within (x ∷ xs) place e = case (bytes_eq (key x) name) e (λ n f. place_within xs n f)
    where
      case : (b : Bool) → (if b then Some 0 else option_map suc (place_among name (map key xs))) ≡ Some place
          → ((n : ℕ) → place_among name (map key xs) ≡ Some n → n < length xs) → place < suc (length xs)
      case true f later = let zeroth : 0 ≡ place = cc in omega (arith, zeroth)
      case false f later =
          let before = suc_of (place_among name (map key xs)) place f in
          omega (arith, before.2, later before.0 before.1)

  -- what stands there is the first of that name
  pub found_there : (xs : List X) (place : ℕ) (d : X) → place_among name (map key xs) ≡ Some place
      → find (λ x. bytes_eq (key x) name) xs ≡ Some (get_or xs place d)
  found_there [] place d e = absurd cc
  found_there (x ∷ xs) place d e = case (bytes_eq (key x) name) e (λ n f. found_there xs n d f)
    where
      case : (b : Bool) → (if b then Some 0 else option_map suc (place_among name (map key xs))) ≡ Some place
          → ((n : ℕ) → place_among name (map key xs) ≡ Some n
          → find (λ x. bytes_eq (key x) name) xs ≡ Some (get_or xs n d))
          → cond b (Some x) (find (λ x. bytes_eq (key x) name) xs) ≡ Some (get_or (x ∷ xs) place d)
      case true f later = let zeroth : 0 ≡ place = cc in ap (λ (n : ℕ). Some (get_or (x ∷ xs) n d)) zeroth
      case false f later =
          let before = suc_of (place_among name (map key xs)) place f in
          later before.0 before.1 ∙ ap (λ (n : ℕ). Some (get_or (x ∷ xs) n d)) (sym before.2)

  pub found_none : (xs : List X) → place_among name (map key xs) ≡ None → find (λ x. bytes_eq (key x) name) xs ≡ None
  found_none [] e = refl
  found_none (x ∷ xs) e = case (bytes_eq (key x) name) e (found_none xs)
    where
      case : (b : Bool) → (if b then Some 0 else option_map suc (place_among name (map key xs))) ≡ None
          → (place_among name (map key xs) ≡ None → find (λ x. bytes_eq (key x) name) xs ≡ None)
          → cond b (Some x) (find (λ x. bytes_eq (key x) name) xs) ≡ None
      case true f later = absurd cc
      case false f later = later (none_of (place_among name (map key xs)) f)

  -- it is changed
  pub put_there : (change : X → X) (new : X) (xs : List X) (place : ℕ) (d : X)
      → place_among name (map key xs) ≡ Some place
      → slice_set xs place (change (get_or xs place d)) ≡ put_where (λ x. bytes_eq (key x) name) change new xs
  put_there change new [] place d e = absurd cc
  put_there change new (x ∷ xs) place d e =
      case (bytes_eq (key x) name) e (λ n f. put_there change new xs n d f)
    where
      case : (b : Bool) → (if b then Some 0 else option_map suc (place_among name (map key xs))) ≡ Some place
          → ((n : ℕ) → place_among name (map key xs) ≡ Some n
          → slice_set xs n (change (get_or xs n d)) ≡ put_where (λ x. bytes_eq (key x) name) change new xs)
          → slice_set (x ∷ xs) place (change (get_or (x ∷ xs) place d))
          ≡ (if b then change x ∷ xs else x ∷ put_where (λ x. bytes_eq (key x) name) change new xs)
      case true f later =
          let zeroth : 0 ≡ place = cc in
          sym (ap (λ (n : ℕ). slice_set (x ∷ xs) n (change (get_or (x ∷ xs) n d))) zeroth)
      case false f later =
          let before = suc_of (place_among name (map key xs)) place f in
          ap (λ (n : ℕ). slice_set (x ∷ xs) n (change (get_or (x ∷ xs) n d))) before.2
          ∙ ap (λ (l : List X). x ∷ l) (later before.0 before.1)

  -- a new one comes last
  pub put_last : (change : X → X) (new : X) (xs : List X) → place_among name (map key xs) ≡ None
      → xs ++ new ∷ [] ≡ put_where (λ x. bytes_eq (key x) name) change new xs
  put_last change new [] e = refl
  put_last change new (x ∷ xs) e = case (bytes_eq (key x) name) e (put_last change new xs)
    where
      case : (b : Bool) → (if b then Some 0 else option_map suc (place_among name (map key xs))) ≡ None
          → (place_among name (map key xs) ≡ None → xs ++ new ∷ [] ≡ put_where (λ x. bytes_eq (key x) name) change new xs)
          → x ∷ (xs ++ new ∷ [])
          ≡ (if b then change x ∷ xs else x ∷ put_where (λ x. bytes_eq (key x) name) change new xs)
      case true f later = absurd cc
      case false f later = ap (λ (l : List X). x ∷ l) (later (none_of (place_among name (map key xs)) f))

  -- where it is there, to put it changes nothing but what stands there
  pub put_same : (new : X) (xs : List X) (place : ℕ) → place_among name (map key xs) ≡ Some place
      → put_where (λ x. bytes_eq (key x) name) (λ x. x) new xs ≡ xs
  put_same new [] place e = absurd cc
  put_same new (x ∷ xs) place e = case (bytes_eq (key x) name) e (λ n f. put_same new xs n f)
    where
      case : (b : Bool) → (if b then Some 0 else option_map suc (place_among name (map key xs))) ≡ Some place
          → ((n : ℕ) → place_among name (map key xs) ≡ Some n
          → put_where (λ x. bytes_eq (key x) name) (λ x. x) new xs ≡ xs) → (if b then x ∷ xs else x ∷ put_where (λ x. bytes_eq (key x) name) (λ x. x) new xs) ≡ x ∷ xs
      case true f later = refl
      case false f later =
          let before = suc_of (place_among name (map key xs)) place f in
          ap (λ (l : List X). x ∷ l) (later before.0 before.1)

  pub keys_stay : (change : X → X) (new : X) → ((x : X) → bytes_eq (key x) name ≡ true → key (change x) ≡ key x)
      → (xs : List X) (place : ℕ) → place_among name (map key xs) ≡ Some place
      → map key (put_where (λ x. bytes_eq (key x) name) change new xs) ≡ map key xs
  keys_stay change new keeps [] place e = absurd cc
  keys_stay change new keeps (x ∷ xs) place e =
      case (bytes_eq (key x) name) refl e (λ n f. keys_stay change new keeps xs n f)
    where
      case : (b : Bool) → bytes_eq (key x) name ≡ b
          → (if b then Some 0 else option_map suc (place_among name (map key xs))) ≡ Some place
          → ((n : ℕ) → place_among name (map key xs) ≡ Some n
          → map key (put_where (λ x. bytes_eq (key x) name) change new xs) ≡ map key xs) → map key (if b then change x ∷ xs else x ∷ put_where (λ x. bytes_eq (key x) name) change new xs)
          ≡ key x ∷ map key xs
      case true same f later = ap (λ (k : List ℕ). k ∷ map key xs) (keeps x same)
      case false differs f later =
          let before = suc_of (place_among name (map key xs)) place f in
          ap (λ (l : List (List ℕ)). key x ∷ l) (later before.0 before.1)

  -- a new one has the place behind all others
  pub place_last : (new : X) → bytes_eq (key new) name ≡ true → (xs : List X)
      → place_among name (map key xs) ≡ None
      → place_among name (map key (xs ++ new ∷ [])) ≡ Some (length xs)
  place_last new same [] e = ap (λ (b : Bool). if b then Some 0 else None) same
  place_last new same (x ∷ xs) e = case (bytes_eq (key x) name) e (place_last new same xs)
    where
      case : (b : Bool) → (if b then Some 0 else option_map suc (place_among name (map key xs))) ≡ None
          → (place_among name (map key xs) ≡ None → place_among name (map key (xs ++ new ∷ [])) ≡ Some (length xs))
          → (if b then Some 0 else option_map suc (place_among name (map key (xs ++ new ∷ []))))
          ≡ Some (suc (length xs))
      case true f later = absurd cc
      case false f later = ap (λ (o : Option ℕ). option_map suc o) (later (none_of (place_among name (map key xs)) f))

-- to put one, and then to change it, is to change it
pub put_twice : {X : Type 0} (holds : X → Bool) (change : X → X) (new : X) → holds new ≡ true → (xs : List X)
    → put_where holds change (change new) (put_where holds (λ x. x) new xs) ≡ put_where holds change (change new) xs
put_twice {X} holds change new same [] =
    ap (λ (b : Bool). if b then change new ∷ [] else new ∷ change new ∷ []) same
put_twice {X} holds change new same (x ∷ xs) = case (holds x) refl (put_twice holds change new same xs)
  where
    after : List X → List X
    after l = put_where holds change (change new) l

    case : (b : Bool) → holds x ≡ b → after (put_where holds (λ x. x) new xs) ≡ after xs
        → after (put_where holds (λ x. x) new (x ∷ xs)) ≡ after (x ∷ xs)
    case true e later = ap (λ (b : Bool). after (if b then x ∷ xs else x ∷ put_where holds (λ x. x) new xs)) e
    case false e later =
        ap (λ (b : Bool). after (if b then x ∷ xs else x ∷ put_where holds (λ x. x) new xs)) e
        ∙ ap (λ (b : Bool). if b then change x ∷ put_where holds (λ x. x) new xs
        else x ∷ after (put_where holds (λ x. x) new xs)) e
        ∙ ap (λ (l : List X). x ∷ l) later
        ∙ sym (ap (λ (b : Bool). if b then change x ∷ xs else x ∷ after xs) e)

-- another of the same name at a place changes no name
pub set_key : {X : Type 0} (key : X → List ℕ) (xs : List X) (i : ℕ) (y : X) → key y ≡ key (get_or xs i y)
    → map key (slice_set xs i y) ≡ map key xs
set_key key [] i y e = refl
set_key key (x ∷ xs) zero y e = ap (λ (k : List ℕ). k ∷ map key xs) e
set_key key (x ∷ xs) (suc i) y e = ap (λ (l : List (List ℕ)). key x ∷ l) (set_key key xs i y e)

pub on_ok : {A E : Type 0} {P Q : Type 0} (result : Result A E) → OnOk result P → (P → Q) → OnOk result Q
on_ok (Ok value) p f = f p
on_ok (Err e) p f = tt
