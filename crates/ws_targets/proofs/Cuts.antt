-- An authority is cut at its last colon in one way, and so a place is read of it in one way.
use Rattle.std.proofs.Common.{◌≡◌, ◌≢◌, ◌∙◌, ℕ, ◌≤◌, ◌==◌, inl, inr, Bool, true, false, List, [], ◌∷◌, ◌++◌, length, codes}
use Rattle.std.proofs.Common.{◌||◌, IsTrue, All, Option, Some, None, is_some, ap, ap₂, sym, refl, subst, arith}
use Rattle.std.proofs.lemmas.Bool.Decides.{nat_tests}
use Rattle.std.proofs.lemmas.List.Quantifiers.{position-Some}
use Rattle.std.proofs.lemmas.List.Sums.{position_or_len_is}
use Rattle.std.proofs.lemmas.List.Elements.{All-from_get_or, All-head, All-same, All-tail}
use Rattle.std.proofs.lemmas.Str.Parse.{IsNumeralModel, not_in_digits}
use Rattle.std.specs.Fmt.{decimal, digits}
use Rattle.std.specs.List.{position, position_or_len}
use Rattle.std.specs.Str.Parse.{AllDigits, digits_value}
use Rattle.ws_formats.specs.Words.{IsNumberWord}
use Rattle.ws_formats.proofs.NumberWords.{number_digits, number_one}
use Rattle.ws_targets.specs.Places.{EndsInPort, IsCutAtLastColon, IsPlace, NamesNoPort, closing_bracket, colon, has_byte}
use Rattle.ws_base.specs.Finding.{Finds}
use Rattle.ws_targets.specs.Reading.{EndsSoInPort, LacksPlace}
use Rattle.ws_targets.specs.Targets.{ends_authority}

abbrev pub NoColon : ℕ → Type 0
NoColon byte = byte ≢ colon

none_behind : (front back : List ℕ) → All NoColon (front ++ colon ∷ back) → ⊥
none_behind [] back h = All-head NoColon colon back h refl
none_behind (x ∷ front) back h = none_behind front back (All-tail NoColon x (front ++ colon ∷ back) h)

pub lacks_cut : (bytes front back : List ℕ) → All NoColon bytes → IsCutAtLastColon bytes front back → ⊥
lacks_cut bytes front back h cut = none_behind front back (All-same NoColon (front ++ colon ∷ back) bytes (sym cut.0) h)

abbrev rest_of : List ℕ → List ℕ
rest_of [] = []
rest_of (x ∷ xs) = xs

abbrev first_of : List ℕ → ℕ
first_of [] = 0
first_of (x ∷ xs) = x

cut_once : (front back front' back' : List ℕ) → All NoColon back → All NoColon back'
    → front ++ colon ∷ back ≡ front' ++ colon ∷ back' → (front ≡ front') × (back ≡ back')
cut_once [] back [] back' a b e = (refl, ap rest_of e)
cut_once [] back (y ∷ front') back' a b e =
    absurd (none_behind front' back' (All-same NoColon (front' ++ colon ∷ back') back (sym (ap rest_of e)) a))
cut_once (x ∷ front) back [] back' a b e =
    absurd (none_behind front back (All-same NoColon (front ++ colon ∷ back) back' (ap rest_of e) b))
cut_once (x ∷ front) back (y ∷ front') back' a b e =
    let same = cut_once front back front' back' a b (ap rest_of e) in
    (ap₂ (λ (z : ℕ) (l : List ℕ). z ∷ l) (ap first_of e) same.0, same.1)

pub one_cut : (bytes front back front' back' : List ℕ) → IsCutAtLastColon bytes front back → IsCutAtLastColon bytes front' back'
    → (front ≡ front') × (back ≡ back')
one_cut bytes front back front' back' h i = cut_once front back front' back' h.1 i.1 (sym h.0 ∙ i.0)

own : IsNumeralModel (AllDigits 10) (digits_value 10)
own = record { to = λ ds h. h; from = λ ds h. h; same = λ ds h. refl }

-- a number has none of the characters behind the digits
number_lacks : (c number : ℕ) (word : List ℕ) → 58 ≤ c → IsNumberWord 65535 number word → All (λ byte. byte ≢ c) word
number_lacks c number word above h =
    let d = number_digits 65535 number word (omega arith) h in
    All-from_get_or (λ byte. byte ≢ c) word 0 (λ i less. not_in_digits own word c d.1 (λ r. omega (arith, r, above)) i less)

pub port_cuts : (bytes name word : List ℕ) (number : ℕ) → bytes ≡ name ++ colon ∷ word → IsNumberWord 65535 number word
    → IsCutAtLastColon bytes name word
port_cuts bytes name word number e h = (e, number_lacks colon number word (omega arith) h)

-- ---- places

pub no_colon_no_port : (bytes : List ℕ) → All NoColon bytes → NamesNoPort bytes
no_colon_no_port bytes h front back cut = absurd (none_behind front back (All-same NoColon (front ++ colon ∷ back) bytes (sym cut.0) h))

pub bracket_no_port : (bytes front back : List ℕ) → IsCutAtLastColon bytes front back → IsTrue (has_byte closing_bracket back)
    → NamesNoPort bytes
bracket_no_port bytes front back h bracket front' back' i =
    subst (λ (l : List ℕ). IsTrue (has_byte closing_bracket l)) (one_cut bytes front back front' back' h i).1 bracket

-- a port stands behind the last colon
pub port_of_cut : (bytes front back name : List ℕ) (number : ℕ) → IsCutAtLastColon bytes front back
    → EndsInPort bytes name number → (front ≡ name) × IsNumberWord 65535 number back
port_of_cut bytes front back name number h (some, (word, e, spells)) =
    let same = one_cut bytes front back name word h (port_cuts bytes name word number e spells) in
    (same.0, subst (λ (l : List ℕ). IsNumberWord 65535 number l) (sym same.1) spells)

-- what stands behind the last colon has no ], and no number goes with a host before it
pub lacks_place : (bytes front back : List ℕ) → IsCutAtLastColon bytes front back → ¬ (IsTrue (has_byte closing_bracket back))
    → ((number : ℕ) → IsNumberWord 65535 number back → 1 ≤ length front → ⊥) → LacksPlace bytes
lacks_place bytes front back h bare none host address (inl (free, _, _)) = bare (free front back h)
lacks_place bytes front back h bare none host address (inr (inl (port, _))) =
    let found = port_of_cut bytes front back host 80 h port in
    none 80 found.1 (subst (λ (l : List ℕ). 1 ≤ length l) (sym found.0) port.0)
lacks_place bytes front back h bare none host address (inr (inr (name, number, port, _, _, _))) =
    let found = port_of_cut bytes front back name number h port in
    none number found.1 (subst (λ (l : List ℕ). 1 ≤ length l) (sym found.0) port.0)

pub no_port_without_colon : (bytes name : List ℕ) (number : ℕ) → All NoColon bytes → EndsInPort bytes name number → ⊥
no_port_without_colon bytes name number h (some, (word, e, spells)) =
    none_behind name word (All-same NoColon (name ++ colon ∷ word) bytes (sym e) h)

-- whether a port stands behind a name and a colon is whether a number does
pub told_port : (bytes front back : List ℕ) (number : Option ℕ) → IsCutAtLastColon bytes front back → 1 ≤ length front
    → Finds number (λ port. IsNumberWord 65535 port back)
    → (IsTrue (is_some number) → EndsSoInPort bytes) × (EndsSoInPort bytes → IsTrue (is_some number))
told_port bytes front back (Some port) h some found = (λ _. (front, port, (some, (back, h.0, found))), λ _. refl)
told_port bytes front back None h some none =
    (λ wrong. absurd cc, λ (name, port, ends). absurd (none port (port_of_cut bytes front back name port h ends).1))

eighty : decimal 80 ≡ codes "80"
unfolding digits
eighty = refl

pub at_port_80 : (bytes front back : List ℕ) (number : ℕ) → IsCutAtLastColon bytes front back → IsNumberWord 65535 number back
    → number ≡ 80 → bytes ≡ front ++ codes ":80"
at_port_80 bytes front back number h spells is =
    h.0 ∙ ap (λ (l : List ℕ). front ++ colon ∷ l) (spells.1 ∙ ap (λ (n : ℕ). decimal n) is ∙ eighty)

lacks_byte : (c : ℕ) (bytes : List ℕ) → All (λ byte. byte ≢ c) bytes → IsTrue (has_byte c bytes) → ⊥
lacks_byte c [] h wrong = absurd cc
lacks_byte c (x ∷ bytes) h found =
    one_of (x == c) (has_byte c bytes) (λ same. All-head (λ byte. byte ≢ c) x bytes h (equal_by same))
    (lacks_byte c bytes (All-tail (λ byte. byte ≢ c) x bytes h)) found
  where
    equal_by : IsTrue (x == c) → x ≡ c
    equal_by same = grind (arith, nat_tests)

    one_of : (a b : Bool) → (IsTrue a → ⊥) → (IsTrue b → ⊥) → IsTrue (a || b) → ⊥
    one_of true b f g h = f refl
    one_of false b f g h = g h

-- an authority with a port is none without
port_or_none : (bytes name : List ℕ) (number : ℕ) → NamesNoPort bytes → EndsInPort bytes name number → ⊥
port_or_none bytes name number free (some, (word, e, spells)) =
    lacks_byte closing_bracket word (number_lacks closing_bracket number word (omega arith) spells)
    (free name word (port_cuts bytes name word number e spells))

one_port : (bytes name name' : List ℕ) (m n : ℕ) → EndsInPort bytes name m → EndsInPort bytes name' n → (name ≡ name') × (m ≡ n)
one_port bytes name name' m n (some, (word, e, spells)) h =
    let same = port_of_cut bytes name word name' n (port_cuts bytes name word m e spells) h in
    (same.0, number_one 65535 65535 m n word (omega arith) (omega arith) spells same.1)

pub one_place : (bytes host address host' address' : List ℕ) → IsPlace bytes host address → IsPlace bytes host' address'
    → (host ≡ host') × (address ≡ address')
one_place bytes h a h' a' (inl (free, e, f)) (inl (free', e', f')) = (e ∙ sym e', f ∙ sym f')
one_place bytes h a h' a' (inl (free, e, f)) (inr (inl (port, f'))) = absurd (port_or_none bytes h' 80 free port)
one_place bytes h a h' a' (inl (free, e, f)) (inr (inr (name, n, port, _, _, _))) = absurd (port_or_none bytes name n free port)
one_place bytes h a h' a' (inr (inl (port, f))) (inl (free, e', f')) = absurd (port_or_none bytes h 80 free port)
one_place bytes h a h' a' (inr (inl (port, f))) (inr (inl (port', f'))) = ((one_port bytes h h' 80 80 port port').0, f ∙ sym f')
one_place bytes h a h' a' (inr (inl (port, f))) (inr (inr (name, n, port', other, e', f'))) =
    absurd (other (sym (one_port bytes h name 80 n port port').1))
one_place bytes h a h' a' (inr (inr (name, n, port, other, e, f))) (inl (free, e', f')) = absurd (port_or_none bytes name n free port)
one_place bytes h a h' a' (inr (inr (name, n, port, other, e, f))) (inr (inl (port', f'))) =
    absurd (other (one_port bytes name h' n 80 port port').1)
one_place bytes h a h' a' (inr (inr (name, n, port, other, e, f))) (inr (inr (name', m, port', other', e', f'))) = (e ∙ sym e', f ∙ sym f')

-- ---- where an authority ends

pub ends_at : (rest : List ℕ) (at : ℕ) → position ends_authority rest ≡ Some at → position_or_len ends_authority rest ≡ at
ends_at rest at found =
    let facts = position-Some ends_authority rest at 0 found in
    position_or_len_is ends_authority rest at 0 (omega (arith, facts.0)) facts.2 (λ _. facts.1)

pub ends_nowhere : (rest : List ℕ) → position ends_authority rest ≡ None → length rest ≤ position_or_len ends_authority rest
ends_nowhere rest none = grind (arith, nat_tests)
