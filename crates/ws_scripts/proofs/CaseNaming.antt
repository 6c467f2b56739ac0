-- The names of cases: which are among those that a front and a count give.
use Rattle.std.proofs.Common.{◌≡◌, ◌∙◌, ℕ, ◌+◌, ◌-◌, ◌^◌, ◌<◌, ◌≤◌, suc, zero, List}
use Rattle.std.proofs.Common.{[], ◌∷◌, ◌++◌, Option, Some, None, Result, Ok, Err, IfOk, MatchOption}
use Rattle.std.proofs.Common.{true, false, refl, rules, append_assoc, ap, arith, codes, drop}
use Rattle.std.proofs.Common.{flat_map, get_or, inl, inr, length, map, slice_index, subst, sym, take}
use Rattle.std.specs.List.{Contains}
use Rattle.std.specs.Fmt.{decimal}
use Rattle.std.proofs.lemmas.Fmt.{decimal_injective}
use Rattle.std.proofs.lemmas.Bool.Decides.{Decides-eqb, not_from_Decides}
use lib.Dec.{eqb}
use Rattle.std.proofs.lemmas.Slice.Eq.{slice_eq-Decides}
use Rattle.std.specs.Option.{is_some}
use lib.Pointwise.{pointwise}
use Rattle.std.proofs.lemmas.List.{append_cancel_left, flat_map_more, get_or-map}
use Rattle.std.proofs.lemmas.List.{length-map, map-append, take_all, take_more}
use Rattle.std.proofs.lemmas.List.Elements.{Contains-append_cases, Contains-append_left}
use Rattle.std.proofs.lemmas.List.Elements.{Contains-append_right, Contains-get_or, Contains-push_cases}
use Rattle.std.proofs.lemmas.List.FromFn.{get_or-map-range_with_len, length-map-range_with_len}
use Rattle.ws_base.specs.Finding.{Finds}
use Rattle.ws_formats.specs.Words.{IsNumberWord}
use Rattle.ws_scripts.specs.declared.cases.row.Row.{Row}
use Rattle.ws_scripts.specs.declared.cases.row.Section.{Section}
use Rattle.ws_scripts.specs.declared.cases.row.Section.TheVariants.{Rows, Texts, Joined, Fronts, NonCharacters, Codes}
use Rattle.ws_scripts.specs.CaseNames.{numbered, numbered_name}
use Rattle.ws_scripts.specs.InnerCases.{IsNamedAt, row_name, section_names_of, section_count, section_names}

-- the name at a place
pub numbered_at : (front : List ℕ) (count place : ℕ) (d : List ℕ) → place < count
    → get_or (numbered front count) place d ≡ numbered_name front (suc place)
numbered_at front count place d within = get_or-map-range_with_len (numbered_name front) 1 count place
    (suc place) d within (omega arith)

-- a name among them has a number from 1 to the count
pub has_number : (front id : List ℕ) (count : ℕ) → Contains (numbered front count) id
    → (number : ℕ) × (0 < number) × (number ≤ count) × (id ≡ numbered_name front number)
has_number front id count h =
    let size = length-map-range_with_len (numbered_name front) 1 count in
    let within : h.0 < count = omega (arith, h.1, size) in
    (suc h.0, omega arith, omega (arith, within), sym h.2 ∙ numbered_at front count h.0 id within)

-- one front and one name have one number
pub same_number : (front : List ℕ) (m n : ℕ) → m < 2 ^ 64 → n < 2 ^ 64
    → numbered_name front m ≡ numbered_name front n → m ≡ n
same_number front m n small other e = decimal_injective m n small other
    (append_cancel_left (codes ".") (decimal m) (decimal n) (append_cancel_left front (codes "." ++ decimal m)
    (codes "." ++ decimal n) e))

-- where another number stands behind the front, the name is not among them
pub not_among : (front id : List ℕ) (count number : ℕ) → count < 2 ^ 64 → number < 2 ^ 64
    → id ≡ numbered_name front number
    → ((0 < number) → (number ≤ count) → ⊥) → Contains (numbered front count) id → ⊥
not_among front id count number small fits named outside h =
    let there = has_number front id count h in
    let same : there.0 ≡ number = same_number front there.0 number (omega (arith, there.2, small)) fits (sym there.3
    ∙ named) in
    outside (omega (arith, same, there.1)) (omega (arith, same, there.2))

-- a name that is in neither list is in none of both
pub in_neither : (names more : List (List ℕ)) (id : List ℕ) → (Contains names id → ⊥) → (Contains more id → ⊥)
    → Contains (names ++ more) id → ⊥
in_neither names more id one other h = elim (Contains-append_cases names more id h) [ inl a ↦ one a | inr b ↦ other b ]

-- what is in one part is in all of them
pub among : {X : Type 0} (f : X → List (List ℕ)) (xs : List X) (i : ℕ) (d : X) (id : List ℕ) → i < length xs
    → Contains (f (get_or xs i d)) id → Contains (flat_map f xs) id
among f [] i d id within h = absurd (omega (arith, within))
among f (x ∷ xs) zero d id within h = Contains-append_left (f x) (flat_map f xs) id h
among f (x ∷ xs) (suc i) d id within h = Contains-append_right (f x) (flat_map f xs) id (among f xs i d id (omega
    (arith, within)) h)

-- the first parts and the next
pub one_more : {X : Type 0} (f : X → List (List ℕ)) (xs : List X) (i : ℕ) (d : X) → i < length xs
    → flat_map f (take (i + 1) xs) ≡ flat_map f (take i xs) ++ f (get_or xs i d)
one_more {X = X} f xs i d within = ap (λ (l : List X). flat_map f l) (take_more xs i d within)
    ∙ sym (flat_map_more f [] (take i xs) (get_or xs i d))

-- what is in none of the first parts and not in the next is in none of those with the next
pub in_no_more : {X : Type 0} (f : X → List (List ℕ)) (xs : List X) (i : ℕ) (d : X) (id : List ℕ) → i < length xs
    → (Contains (flat_map f (take i xs)) id → ⊥) → (Contains (f (get_or xs i d)) id → ⊥)
    → Contains (flat_map f (take (i + 1) xs)) id → ⊥
in_no_more f xs i d id within before here h = in_neither (flat_map f (take i xs)) (f (get_or xs i d)) id before here
    (subst (λ (l : List (List ℕ)). Contains l id) (one_more f xs i d within) h)

-- ---- a front and a dot

pub behind_dot : (front name rest : List ℕ) → name ≡ front ++ rest → 1 ≤ length rest → slice_index rest 0 ≡ 46
    → name ≡ front ++ (46 ∷ take (length rest - 1) (drop 1 rest))
behind_dot front name [] e some dot = absurd (omega (arith, some))
behind_dot front name (x ∷ xs) e some dot = e ∙ (ap (λ (c : ℕ). front ++ (c ∷ xs)) dot
    ∙ ap (λ (l : List ℕ). front ++ (46 ∷ l)) (sym (take_all (length (x ∷ xs) - 1) xs (omega arith))))

pub told_number : (front name word : List ℕ) (r : Option ℕ) → name ≡ front ++ (46 ∷ word)
    → Finds r (λ (n : ℕ). IsNumberWord 4294967295 n word)
    → Finds r (λ (n : ℕ). (n ≤ 4294967295) × (name ≡ numbered_name front n))
told_number front name word (Some n) e h = (h.0, e ∙ ap (λ (l : List ℕ). front ++ (46 ∷ l)) h.1)
told_number front name word None e h = λ n g. h n (
  g.0,
  append_cancel_left (codes ".") word (decimal n)
      (append_cancel_left front (codes "." ++ word) (codes "." ++ decimal n) (sym e ∙ g.1)),
)

-- ---- sections

pub named_so : {A E : Type 0} (bytes : A → List ℕ) (section : Section) (place : ℕ) (front : List ℕ) (r : Result A E)
    → section_names section ≡ numbered front (section_count section) → place < section_count section
    → IfOk r (λ (name : A). bytes name ≡ numbered_name front (place + 1))
    → IfOk r (λ (name : A). IsNamedAt section place (bytes name))
named_so bytes section place front (Ok name) all within h = record {
  within = within;
  named = ap (λ (l : List (List ℕ)). get_or l place []) all ∙ (numbered_at front (section_count section) place [] within
      ∙ (ap (λ (n : ℕ). numbered_name front n) (omega arith) ∙ sym h));
}
named_so bytes section place front (Err e) all within h = h

pub placed_so : (section : Section) (front id : List ℕ) (count : ℕ) (r : Option ℕ) → count ≡ section_count section
    → section_names section ≡ numbered front (section_count section)
    → MatchOption r (Contains (numbered front count) id
    → ⊥) (λ (place : ℕ). (place < count) × (get_or (numbered front count) place [] ≡ id))
    → MatchOption r (Contains (section_names section) id → ⊥) (λ (place : ℕ). IsNamedAt section place id)
placed_so section front id count (Some place) size all h = record {
  within = omega (arith, size, h.0);
  named = ap (λ (l : List (List ℕ)). get_or l place []) all
      ∙ (ap (λ (n : ℕ). get_or (numbered front n) place []) (sym size) ∙ h.1);
}
placed_so section front id count None size all h = λ there.
    h (subst (λ (n : ℕ). Contains (numbered front n) id) (sym size) (subst (λ (l : List
    (List ℕ)). Contains l id) all there))

-- the name at a place is among those of the section
pub is_in_section : (section : Section) (place : ℕ) (id : List ℕ) → place < length (section_names section)
    → IsNamedAt section place id
    → Contains (section_names section) id
is_in_section section place id within h = subst (λ (l : List ℕ). Contains (section_names section) l) h.named
    (Contains-get_or (section_names section) place [] within)

pub count_is : (section : Section) → length (section_names section) ≡ section_count section
count_is (Rows rows) = length-map rows.now row_name
count_is (Texts front texts) = length-map-range_with_len (numbered_name front.now) 1 (length texts.now)
count_is (Joined front texts) = length-map-range_with_len (numbered_name front.now) 1 1
count_is (Fronts front text) = length-map-range_with_len (numbered_name front.now) 1 (length text.now)
count_is (NonCharacters front) = length-map-range_with_len (numbered_name front.now) 1 34
count_is (Codes front codes) = length-map-range_with_len (numbered_name front.now) 1 (length codes.now)

-- ---- rows

pub not_in_row : (rows : List Row) (i : ℕ) (d : Row) (id : List ℕ) → i < length rows
    → (Contains (map row_name (take i rows)) id → ⊥) → (row_name (get_or rows i d) ≡ id → ⊥)
    → Contains (map row_name (take (i + 1) rows)) id → ⊥
not_in_row rows i d id within before here h = elim (Contains-push_cases (map row_name (take i rows)) (row_name
    (get_or rows i d)) id
    (subst (λ (l : List (List ℕ)). Contains l id)
    (ap (λ (l : List Row). map row_name l) (take_more rows i d within)
    ∙ map-append row_name (take i rows) (get_or rows i d ∷ [])) h))
    [ inl a ↦ before a | inr b ↦ here b ]

-- texts are compared byte by byte
pub same_bytes : (a b : List ℕ) → true ≡ pointwise eqb a b → a ≡ b
same_bytes a b e = (slice_eq-Decides Decides-eqb a b true e).0 refl

pub other_bytes : (a b : List ℕ) → false ≡ pointwise eqb a b → a ≡ b → ⊥
other_bytes a b e same = not_from_Decides false (slice_eq-Decides Decides-eqb a b false e) refl same

-- ---- the walks over rows and sections

pub row_found : (rows : List Row) (place : ℕ) (d : Row) (id : List ℕ) → place < length rows
    → true ≡ pointwise eqb (row_name (get_or rows place d)) id → get_or (map row_name rows) place [] ≡ id
row_found rows place d id within e = get_or-map row_name rows place d [] within
    ∙ same_bytes (row_name (get_or rows place d)) id e

pub row_passed : (rows : List Row) (place : ℕ) (d : Row) (id : List ℕ) → place < length rows
    → (Contains (map row_name (take place rows)) id → ⊥) → false ≡ pointwise eqb (row_name (get_or rows place d)) id
    → Contains (map row_name (take (place + 1) rows)) id → ⊥
row_passed rows place d id within before e = not_in_row rows place d id within before (other_bytes (row_name
    (get_or rows place d)) id e)

pub section_found : (sections : List Section) (i : ℕ) (d : Section) (place : ℕ) (id : List ℕ) → i < length sections
    → IsNamedAt (get_or sections i d) place id → Contains (section_names_of sections) id
section_found sections i d place id within h = among section_names sections i d id within
    (is_in_section (get_or sections i d) place id (omega (arith, h.within, count_is (get_or sections i d))) h)

pub section_passed : (sections : List Section) (i : ℕ) (d : Section) (id : List ℕ) → i < length sections
    → (Contains (section_names_of (take i sections)) id → ⊥) → (Contains (section_names (get_or sections i d)) id → ⊥)
    → Contains (section_names_of (take (i + 1) sections)) id → ⊥
section_passed sections i d id within before here = in_no_more section_names sections i d id within before here

-- what is found in a part is found
pub part_found : {A : Type 0} (bytes : A → List ℕ) (here all : List (List ℕ)) (id : List ℕ) (found : Option A)
    → true ≡ is_some found
    → (Contains here id → Contains all id)
    → MatchOption found (Contains here id → ⊥) (λ (x : A). Contains here id × (bytes x ≡ id))
    → MatchOption found (Contains all id → ⊥) (λ (x : A). Contains all id × (bytes x ≡ id))
part_found bytes here all id (Some x) some wider h = (wider h.0, h.1)
part_found bytes here all id None some wider h = λ there. not_from_Decides false (Decides-eqb 0 1) refl (search rules)

pub part_passed : {A : Type 0} (bytes : A → List ℕ) (here : List (List ℕ)) (id : List ℕ) (found : Option A)
    → false ≡ is_some found
    → MatchOption found (Contains here id → ⊥) (λ (x : A). Contains here id × (bytes x ≡ id)) → Contains here id → ⊥
part_passed bytes here id None none h = h
part_passed bytes here id (Some x) none h = λ there. search rules

-- one more name
pub name_pushed : {A : Type 0} (bytes : A
    → List ℕ) (section : Section) (place : ℕ) (items new : List A) (name : A) (old : List (List ℕ))
    → new ≡ items ++ name ∷ [] → IsNamedAt section place (bytes name)
    → map bytes items ≡ old ++ take place (section_names section)
    → map bytes new ≡ old ++ take (place + 1) (section_names section)
name_pushed {A = A} bytes section place items new name old e h inv =
    let names = section_names section in
    ap (λ (l : List A). map bytes l) e ∙ (map-append bytes items (name ∷ [])
    ∙ (ap (λ (l : List (List ℕ)). l ++ bytes name ∷ []) inv
    ∙ (append_assoc old (take place names) (bytes name ∷ []) ∙ ap (λ (l : List (List ℕ)). old ++ l)
    (ap (λ (l : List ℕ). take place names ++ l ∷ []) (sym h.named)
    ∙ sym (take_more names place [] (omega (arith, h.within, count_is section)))))))
