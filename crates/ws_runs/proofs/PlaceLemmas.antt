-- Where names stand in a list, with one name more; and what stands at a place.
use Rattle.std.proofs.Common.{◌≡◌, ◌∙◌, ℕ, zero, suc, ◌<◌, Bool, true, false, ◌||◌, cond, List, [], ◌∷◌, ◌++◌, length, Option}
use Rattle.std.proofs.Common.{None, Some, Bor, map, find, get_or, ap, sym, refl, arith, if◌then◌else◌}
use Rattle.std.proofs.lemmas.Slice.Eq.{bytes_eq-Decides}
use Rattle.std.specs.BTreeMap.{BTreeMap}
use Rattle.std.specs.List.{list_any}
use Rattle.std.specs.Map.{update}
use Rattle.std.specs.Option.{option_map}
use Rattle.std.specs.Str.{bytes_eq}
use Rattle.ws_runs.specs.Names.{is_among, place_among, put_where, with_name}
use Rattle.ws_runs.specs.Places.{AreNotedPlaces, noted_place}

-- ---- one name more

none_before : (place : Option ℕ) → option_map suc place ≡ None → place ≡ None
none_before None e = refl
none_before (Some place) e = absurd cc

push_other : (names : List (List ℕ)) (last name : List ℕ) → bytes_eq last name ≡ false
    → place_among name (names ++ last ∷ []) ≡ place_among name names
push_other [] last name differs = ap (λ (b : Bool). if b then Some 0 else None) differs
push_other (first ∷ names) last name differs =
    ap (λ (o : Option ℕ). if bytes_eq first name then Some 0 else option_map suc o) (push_other names last name differs)

push_same : (names : List (List ℕ)) (last name : List ℕ) → bytes_eq last name ≡ true → place_among name names ≡ None
    → place_among name (names ++ last ∷ []) ≡ Some (length names)
push_same [] last name same none = ap (λ (b : Bool). if b then Some 0 else None) same
push_same (first ∷ names) last name same none = case (bytes_eq first name) none (push_same names last name same)
  where
    case : (b : Bool) → (if b then Some 0 else option_map suc (place_among name names)) ≡ None
        → (place_among name names ≡ None → place_among name (names ++ last ∷ []) ≡ Some (length names))
        → (if b then Some 0 else option_map suc (place_among name (names ++ last ∷ []))) ≡ Some (suc (length names))
    case true e later = absurd cc
    case false e later = ap (λ (o : Option ℕ). option_map suc o) (later (none_before (place_among name names) e))

pub places_pushed : (names : List (List ℕ)) (last : List ℕ) (place : ℕ) (old new : BTreeMap (Bor (List ℕ)) ℕ)
    → ((name : List ℕ)
    → noted_place new name ≡ update bytes_eq (λ other. noted_place old other) last (Some place) name)
    → AreNotedPlaces names old → place_among last names ≡ None → length names ≡ place → AreNotedPlaces (names ++ last ∷ []) new
places_pushed names last place old new updated are none count = λ name.
    case name (bytes_eq last name) refl
  where
    case : (name : List ℕ) (b : Bool) → bytes_eq last name ≡ b
        → noted_place new name ≡ place_among name (names ++ last ∷ [])
    case name true same =
        updated name ∙ ap (λ (b : Bool). cond b (Some place) (noted_place old name)) same
        ∙ ap (λ (n : ℕ). Some n) (sym count)
        ∙ sym (push_same names last name same
        (ap (λ (n : List ℕ). place_among n names) (sym ((bytes_eq-Decides last name).0 same)) ∙ none))
    case name false differs =
        updated name ∙ ap (λ (b : Bool). cond b (Some place) (noted_place old name)) differs
        ∙ (are name ∙ sym (push_other names last name differs))

-- ---- a name that is among others has a place

no_place : (names : List (List ℕ)) (name : List ℕ) → place_among name names ≡ None → is_among name names ≡ false
no_place [] name none = refl
no_place (first ∷ names) name none = case (bytes_eq first name) refl (no_place names name)
  where
    case : (b : Bool) → bytes_eq first name ≡ b → (place_among name names ≡ None → is_among name names ≡ false)
        → is_among name (first ∷ names) ≡ false
    case true same later =
        let bad : Some 0 ≡ None =
        sym (ap (λ (b : Bool). if b then Some 0 else option_map suc (place_among name names)) same) ∙ none in
        absurd (cc)
    case false differs later =
        ap (λ (b : Bool). b || is_among name names) differs
        ∙ later (none_before (place_among name names)
        (sym (ap (λ (b : Bool). if b then Some 0 else option_map suc (place_among name names)) differs) ∙ none))

some_place : (names : List (List ℕ)) (name : List ℕ) (place : ℕ) → place_among name names ≡ Some place
    → is_among name names ≡ true
some_place [] name place e = absurd cc
some_place (first ∷ names) name place e =
    case (bytes_eq first name) refl (place_among name names) refl (λ n f. some_place names name n f)
  where
    case : (b : Bool) → bytes_eq first name ≡ b → (o : Option ℕ) → place_among name names ≡ o
        → ((n : ℕ) → place_among name names ≡ Some n → is_among name names ≡ true)
        → is_among name (first ∷ names) ≡ true
    case true same o is later = ap (λ (b : Bool). b || is_among name names) same
    case false differs None is later =
        let bad : None ≡ Some place =
        sym (ap (λ (b : Bool). if b then Some 0 else option_map suc (place_among name names)) differs
        ∙ ap (λ (o : Option ℕ). option_map suc o) is) ∙ e in
        absurd (cc)
    case false differs (Some other) is later =
        ap (λ (b : Bool). b || is_among name names) differs ∙ later other is

pub name_stays : (names : List (List ℕ)) (name : List ℕ) (place : ℕ) → place_among name names ≡ Some place
    → with_name names name ≡ names
name_stays names name place is =
    ap (λ (b : Bool). if b then names else names ++ name ∷ []) (some_place names name place is)

pub name_comes : (names : List (List ℕ)) (name : List ℕ) → place_among name names ≡ None
    → with_name names name ≡ names ++ name ∷ []
name_comes names name none = ap (λ (b : Bool). if b then names else names ++ name ∷ []) (no_place names name none)
