-- Steps along headers and members.
use Rattle.std.proofs.Common.{◌≡◌, ℕ, ◌<◌, ◌≤◌, ◌+◌, ◌==◌, Bool, true, false, not, List, [], ◌∷◌, ◌++◌, length, filter, map, take, drop, cond, refl, ap, ◌∙◌, Some, None, arith, position, All}
use Rattle.std.specs.List.{slice_split, position_or_len}
use Rattle.std.specs.Str.{str_eq_ignore_ascii_case}
use Rattle.std.proofs.lemmas.List.Elements.{All-tail}
use Rattle.std.proofs.lemmas.List.Quantifiers.{position-Some}
use Rattle.std.proofs.lemmas.List.Sums.{position_or_len_is, fails_before_first}
use Rattle.std.proofs.lemmas.Bool.Decides.{nat_tests}
use Rattle.std.proofs.lemmas.List.Splits.{slice_split_first, slice_split_none}
use Rattle.httparse.specs.Grammar.{trim_ows}
use Rattle.httparse.specs.Spans.{header_bytes}
use Rattle.httparse.specs.declared.spans.HeaderSpan.{HeaderSpan}
use Rattle.ws_upgrade.specs.Members.{comma, members_in, values_of}

pub members_in-nil : members_in [] ≡ []
unfolding trim_ows
members_in-nil = refl

cond-append : (b : Bool) (x : List ℕ) (rest : List (List ℕ)) → cond b (x ∷ rest) rest ≡ cond b (x ∷ []) [] ++ rest
cond-append true x rest = refl
cond-append false x rest = refl

cond-nil : (b : Bool) (x : List ℕ) → cond b (x ∷ []) [] ≡ cond b (x ∷ []) [] ++ []
cond-nil true x = refl
cond-nil false x = refl

-- the members of a value whose first part ends at a comma
members_in-parts : (value part after : List ℕ) → slice_split (λ byte. byte == comma) value ≡ part ∷ slice_split (λ byte. byte == comma) after
    → members_in value ≡ filter (λ member. not (length member == 0)) (trim_ows part ∷ []) ++ members_in after
members_in-parts value part after parts =
    ap (λ (l : List (List ℕ)). filter (λ member. not (length member == 0)) (map trim_ows l)) parts
    ∙ cond-append (not (length (trim_ows part) == 0)) (trim_ows part) (members_in after)

-- the first comma's place in the words of `slice_split`
first_place : (value : List ℕ) (at : ℕ) → position (λ byte. byte == comma) value ≡ Some at
    → (at < length value) × (position_or_len (λ byte. byte == comma) value ≡ at)
first_place value at found =
    let facts = position-Some (λ byte. byte == comma) value at 0 found in
    (facts.0, position_or_len_is (λ byte. byte == comma) value at 0 (omega (arith, facts.0)) facts.2 (λ _. facts.1))

pub members_in-at : (value : List ℕ) (at : ℕ) → position (λ byte. byte == comma) value ≡ Some at
    → members_in value ≡ filter (λ member. not (length member == 0)) (trim_ows (take at value) ∷ []) ++ members_in (drop (at + 1) value)
members_in-at value at found =
    let place = first_place value at found in
    let inside : position_or_len (λ byte. byte == comma) value < length value = rw place.1 place.0 in
    let parts = slice_split_first (λ byte. byte == comma) value 0 inside in
    members_in-parts value (take at value) (drop (at + 1) value) (rw place.1 at parts)

nowhere : (value : List ℕ) → position (λ byte. byte == comma) value ≡ None → length value ≤ position_or_len (λ byte. byte == comma) value
nowhere value none = grind (arith, nat_tests)

pub members_in-no_comma : (value : List ℕ) → position (λ byte. byte == comma) value ≡ None
    → members_in value ≡ filter (λ member. not (length member == 0)) (trim_ows value ∷ []) ++ members_in []
members_in-no_comma value none =
    let beyond = nowhere value none in
    let parts = slice_split_none (λ byte. byte == comma) value (λ k d lt. fails_before_first (λ byte. byte == comma) value k d (omega (arith, beyond, lt))) in
    ap (λ (l : List (List ℕ)). filter (λ member. not (length member == 0)) (map trim_ows l)) parts
    ∙ rw members_in-nil (cond-nil (not (length (trim_ows value) == 0)) (trim_ows value))

-- ---- headers by name

-- what holds of each element holds of each after the first
pub All-after : {X : Type 0} (P : X → Type 0) (xs : List X) (first : X) (others : List X) → xs ≡ first ∷ others
    → All P xs → All P others
All-after P xs first others parts all = All-tail P first others (rw parts at all)

-- the first header has another name
pub values_of-other : (name bytes : List ℕ) (spans : List HeaderSpan) (first : HeaderSpan) (others : List HeaderSpan)
    → spans ≡ first ∷ others
    → str_eq_ignore_ascii_case (header_bytes bytes first).0 name ≡ false
    → values_of name (map (header_bytes bytes) spans) ≡ values_of name (map (header_bytes bytes) others)
values_of-other name bytes spans first others parts other = rw (parts, other) refl
