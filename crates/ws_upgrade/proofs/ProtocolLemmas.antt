-- Places of names, names that differ, and the choice along the members of headers.
use Rattle.std.proofs.Common.{◌≡◌, ℕ, ◌<◌, ◌≤◌, ◌+◌, Bool, false, List, [], ◌∷◌, length, map, get_or, refl, sym, ap, subst, ◌∙◌, Option, Some, None, MatchOption, IsTrue, ◌↔◌, All, Contains, arith, position, slice_get, inl, inr}
use Rattle.std.specs.List.{position_or_len, AllPairs}
use Rattle.std.specs.Str.{bytes_eq}
use Rattle.std.proofs.lemmas.Bool.{cases_lt}
use Rattle.std.proofs.lemmas.Bool.Decides.{nat_tests, not_from_Decides}
use Rattle.std.proofs.lemmas.Slice.Eq.{bytes_eq-Decides}
use Rattle.std.proofs.lemmas.List.{get_or-map}
use Rattle.std.proofs.lemmas.List.Quantifiers.{position-Some}
use Rattle.std.proofs.lemmas.List.Sums.{fails_before_first}
use Rattle.std.proofs.lemmas.List.Elements.{All-cons, All-nil}
use Rattle.std.proofs.lemmas.Option.{slice_get-get_or, get_or_from_slice_get, slice_get_within}
use Rattle.std.proofs.Math.ListN.{length-map}
use Rattle.ws_upgrade.specs.Protocols.{AreOffers, IsProtocolName, IsFirstPlace, IsChoice, NamesOffered}

-- ---- the place of a name

some_none : {A : Type 0} {x : A} → None ≡ Some x → ⊥
some_none e = cc

pub Contains-first : (names : List (List ℕ)) (name : List ℕ) (place : ℕ) → IsFirstPlace names name place → Contains names name
Contains-first names name place at =
    (place, slice_get_within names place name at.there, get_or_from_slice_get names place name name at.there)

module _ {X : Type 0} (text : X → List ℕ) (name : List ℕ) where
  -- what fails the test is another text
  other_text : (x : X) → bytes_eq (text x) name ≡ false → ¬ (text x ≡ name)
  other_text x fails = not_from_Decides (bytes_eq (text x) name) (bytes_eq-Decides (text x) name) fails

  -- the first that passes the test
  pub first_place : (xs : List X) (place : ℕ) → position (λ x. bytes_eq (text x) name) xs ≡ Some place → IsFirstPlace (map text xs) name place
  first_place [] place found = absurd (some_none found)
  first_place (d ∷ ys) place found =
      let xs = d ∷ ys in
      let facts = position-Some (λ x. bytes_eq (text x) name) xs place d found in
      let same : text (get_or xs place d) ≡ name = (bytes_eq-Decides (text (get_or xs place d)) name).0 facts.1 in
      let inside : place < length (map text xs) = rw (length-map xs text) facts.0 in
      record {
        there =
            slice_get-get_or (map text xs) place (text d) inside
            ∙ ap Some (get_or-map text xs place d (text d) facts.0 ∙ same);
        least = λ other at. elim (cases_lt other place) [
          | inl below ↦
              let read : get_or (map text xs) other (text d) ≡ name = get_or_from_slice_get (map text xs) other name (text d) at in
              absurd (other_text (get_or xs other d) (facts.2 other below) (sym (get_or-map text xs other d (text d) (omega (arith, below, facts.0))) ∙ read))
          | inr above ↦ above
        ];
      }

  -- none passes the test
  pub no_place : (xs : List X) → position (λ x. bytes_eq (text x) name) xs ≡ None → ¬ (Contains (map text xs) name)
  no_place [] none = λ (k, below, is). absurd (omega (arith, below))
  no_place (d ∷ ys) none =
      let xs = d ∷ ys in
      let beyond : length xs ≤ position_or_len (λ x. bytes_eq (text x) name) xs = grind (arith, nat_tests) in
      λ (k, below, is).
      let inside : k < length xs = rw (sym (length-map xs text)) below in
      let fails = fails_before_first (λ x. bytes_eq (text x) name) xs k d (omega (arith, beyond, inside)) in
      other_text (get_or xs k d) fails (sym (get_or-map text xs k d name inside) ∙ is)

  -- what the search for a place finds
  pub place_or_none : (xs : List X) (found : Option ℕ) → found ≡ position (λ x. bytes_eq (text x) name) xs
      → MatchOption found (¬ (Contains (map text xs) name)) (λ place. IsFirstPlace (map text xs) name place)
  place_or_none xs None is = no_place xs (sym is)
  place_or_none xs (Some place) is = first_place xs place (sym is)

-- ---- names that differ

-- no two of the first n are equal
abbrev pub AreDistinctBelow : ℕ → List (List ℕ) → Type 0
AreDistinctBelow n names = (i j : ℕ) (d : List ℕ) → i < j → j < n → ¬ (get_or names i d ≡ get_or names j d)

-- the next one stands at no place before
pub AreDistinctBelow-more : (names : List (List ℕ)) (name : List ℕ) (n : ℕ) → IsFirstPlace names name n → AreDistinctBelow n names → AreDistinctBelow (n + 1) names
AreDistinctBelow-more names name n at before i j d lt within same =
    elim (cases_lt j n) [
      | inl old ↦ before i j d lt old same
      | inr new ↦
          let here : j ≡ n = omega (arith, new, within) in
          let inside = slice_get_within names n name at.there in
          let read : get_or names i d ≡ name = same ∙ ap (λ k. get_or names k d) here ∙ get_or_from_slice_get names n name d at.there in
          let first = at.least i (slice_get-get_or names i d (omega (arith, lt, here, inside)) ∙ ap Some read) in
          omega (arith, first, lt, here)
    ]

-- one stands at a place before
pub AreDistinctBelow-fails : (names : List (List ℕ)) (name : List ℕ) (n p : ℕ) → slice_get names n ≡ Some name → IsFirstPlace names name p → ¬ (p ≡ n)
    → AllPairs (λ one other. ¬ (one ≡ other)) names → ⊥
AreDistinctBelow-fails names name n p there at differs distinct =
    let before : p ≤ n = at.least n there in
    let lt : p < n = grind (arith, before, differs) in
    distinct p n name lt (slice_get_within names n name there)
    (get_or_from_slice_get names p name name at.there ∙ sym (get_or_from_slice_get names n name name there))

-- the first place of one is another place
pub first_elsewhere : (names : List (List ℕ)) (name : List ℕ) (n : ℕ) (found : Option ℕ)
    → MatchOption found (¬ (Contains names name)) (λ place. IsFirstPlace names name place) → slice_get names n ≡ Some name → ¬ (found ≡ Some n) → AllPairs (λ one other. ¬ (one ≡ other)) names → ⊥
first_elsewhere names name n None unknown there differs distinct = unknown (n, slice_get_within names n name there, get_or_from_slice_get names n name name there)
first_elsewhere names name n (Some place) at there differs distinct = AreDistinctBelow-fails names name n place there at (λ same. differs (ap Some same)) distinct

-- what is asked of each element of a list
pub All-unmap : {X Y : Type 0} (P : Y → Type 0) (text : X → Y) (xs : List X) → All P (map text xs) → All (λ x. P (text x)) xs
All-unmap P text xs each k d lt =
    let inside : k < length (map text xs) = rw (length-map xs text) lt in
    subst P (get_or-map text xs k d (text d) lt) (each k (text d) inside)

-- names that are few and right can be offered where they differ
pub offers_iff : (names : List (List ℕ)) (answer : Bool) → length names ≤ 16 → All IsProtocolName names
    → IsTrue answer ↔ AllPairs (λ one other. ¬ (one ≡ other)) names → IsTrue answer ↔ AreOffers names
offers_iff names answer few valid says =
    ((λ yes. record { few = few; valid = valid; distinct = says.0 yes }), (λ offers. says.1 offers.distinct))

-- no name can be offered
pub offers_of-nothing : AreOffers []
offers_of-nothing = record { few = omega arith; valid = All-nil IsProtocolName; distinct = λ i j d lt within. absurd (omega (arith, within)) }

-- the element at a place, of a list of texts
pub text_at : {X : Type 0} (text : X → List ℕ) (xs : List X) (n : ℕ) (d : X) → n < length xs → slice_get (map text xs) n ≡ Some (text (get_or xs n d))
text_at text xs n d lt =
    let inside : n < length (map text xs) = rw (length-map xs text) lt in
    slice_get-get_or (map text xs) n (text d) inside ∙ ap Some (get_or-map text xs n d (text d) lt)

-- ---- the choice

module _ (known : List (List ℕ)) where
  pub choice_of-nothing : IsChoice known [] None
  choice_of-nothing = All-nil (λ member. ¬ (Contains known member))

  pub choice_of-first : (member : List ℕ) (others : List (List ℕ)) (place : ℕ) → IsFirstPlace known member place → IsChoice known (member ∷ others) (Some place)
  choice_of-first member others place at = ([], member, others, refl, All-nil (λ other. ¬ (Contains known other)), at)

  pub choice_of-others : (member : List ℕ) (others : List (List ℕ)) (choice : Option ℕ) → ¬ (Contains known member) → IsChoice known others choice → IsChoice known (member ∷ others) choice
  choice_of-others member others None unknown none = All-cons (λ other. ¬ (Contains known other)) member others unknown none
  choice_of-others member others (Some place) unknown (before, chosen, after, parts, none, at) =
      (member ∷ before, chosen, after, ap (λ (l : List (List ℕ)). member ∷ l) parts, All-cons (λ other. ¬ (Contains known other)) member before unknown none, at)

cons_of-nil : {x : List ℕ} {xs : List (List ℕ)} → x ∷ xs ≡ [] → ⊥
cons_of-nil e = cc

heads : {x y : List ℕ} {xs ys : List (List ℕ)} → x ∷ xs ≡ y ∷ ys → (x ≡ y) × (xs ≡ ys)
heads e = (cc, cc)

-- one member, that was offered
pub one_named : (offers members : List (List ℕ)) (name : List ℕ) (place : ℕ) → members ≡ name ∷ [] → IsFirstPlace offers name place → NamesOffered offers members × IsChoice offers members (Some place)
one_named offers members name place only at =
    (inr (name, only, Contains-first offers name place at), subst (λ (l : List (List ℕ)). IsChoice offers l (Some place)) (sym only) (choice_of-first offers name [] place at))

module _ (offers members : List (List ℕ)) (first : List ℕ) (others : List (List ℕ)) (are : members ≡ first ∷ others) where
  -- a member that was not offered
  pub other_named : ¬ (Contains offers first) → ¬ (NamesOffered offers members)
  other_named unknown (inl none) = cons_of-nil (sym are ∙ none)
  other_named unknown (inr (name, only, offered)) = unknown (subst (λ (x : List ℕ). Contains offers x) (sym (heads (sym are ∙ only)).0) offered)
