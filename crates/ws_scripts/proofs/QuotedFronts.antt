-- What is taken off the front of a text between quotes is what its first word stands for, and no other.
use Rattle.std.proofs.Common.{◌≡◌, ◌∙◌, ℕ, ◌+◌, ◌*◌, ◌<◌, ◌==◌, Bool, true, false, ◌&&◌, not, if◌then◌else◌, inl, inr}
use Rattle.std.proofs.Common.{◌⊎◌, List, []}
use Rattle.std.proofs.Common.{◌∷◌, ◌++◌, Option, Some, None, refl, ap, ap₂, sym, subst, arith, append_assoc}
use Rattle.std.proofs.lemmas.Bool.{and_from, and_parts, cases_Bool, cond-false, cond-true, eqb-true, false≢true, lt-ltb}
use Rattle.std.proofs.lemmas.Bool.{ltb-true}
use Rattle.std.proofs.lemmas.Bool.Decides.{nat_tests}
use Rattle.std.proofs.lemmas.Option.{none-some, same_Some}
use Rattle.std.specs.Prelude.{nat_lt}
use Rattle.std.specs.Borrow.{Bor}
use Rattle.std.specs.Char.{OutOfScalarRange, digit_value}
use Rattle.std.specs.Char.Utf16.{is_high_surrogate, is_low_surrogate, surrogate_pair_char}
use Rattle.ws_scripts.specs.QuotedTexts.{IsPairEscape, IsUnitEscape, StandsFor, escaped_by, is_alone}
use Rattle.ws_scripts.specs.QuotedTexts.{is_unescaped}
use Rattle.ws_scripts.specs.InnerQuoting.{IsTakenOff, TakenOff, escaped_front, from_unit, front_character, one_more_digit}
use Rattle.ws_scripts.specs.InnerQuoting.{paired_with, unit_behind}
use Rattle.ws_scripts.specs.InnerQuoting.{unit_digits, one_digit, with_rest}

-- which part of a choice it is
which : {A : Type 0} (b : Bool) (x y z : A) → (if b then x else y) ≡ z
    → ((b ≡ true) × (x ≡ z)) ⊎ ((b ≡ false) × (y ≡ z))
which true x y z e = inl (refl, e)
which false x y z e = inr (refl, e)

abbrev found : ℕ → List ℕ → TakenOff
found c rest = Some (c, rest)

same_pair : (a b : ℕ × List ℕ) → Some a ≡ Some b → a ≡ b
same_pair a b e = same_Some a b e

same_first : (c d : ℕ) (more rest : List ℕ) → found c more ≡ found d rest → c ≡ d
same_first c d more rest e = ap (λ (p : ℕ × List ℕ). p.0) (same_pair (c, more) (d, rest) e)

same_rest : (c d : ℕ) (more rest : List ℕ) → found c more ≡ found d rest → more ≡ rest
same_rest c d more rest e = ap (λ (p : ℕ × List ℕ). p.1) (same_pair (c, more) (d, rest) e)

-- ---- digits

digit_ahead : (number d : ℕ) (rest : List ℕ) → digit_value d < 16
    → one_digit number (d ∷ rest) ≡ Some (number * 16 + digit_value d, rest)
digit_ahead number d rest small = cond-true (nat_lt (digit_value d) 16) _ _ (lt-ltb (digit_value d) 16 small)

digits_ahead : (a b c d : ℕ) (rest : List ℕ) → digit_value a < 16 → digit_value b < 16 → digit_value c < 16
    → digit_value d < 16 → unit_digits (a ∷ b ∷ c ∷ d ∷ rest)
    ≡ Some ((((0 * 16 + digit_value a) * 16 + digit_value b) * 16 + digit_value c) * 16 + digit_value d, rest)
digits_ahead a b c d rest is_a is_b is_c is_d =
    let one = digit_ahead 0 a (b ∷ c ∷ d ∷ rest) is_a in
    let two = ap one_more_digit one ∙ digit_ahead (0 * 16 + digit_value a) b (c ∷ d ∷ rest) is_b in
    let three = ap one_more_digit two
    ∙ digit_ahead ((0 * 16 + digit_value a) * 16 + digit_value b) c (d ∷ rest) is_c in
    ap one_more_digit three
    ∙ digit_ahead (((0 * 16 + digit_value a) * 16 + digit_value b) * 16 + digit_value c) d rest is_d

-- the digits of an escape are read as its number
unit_ahead : (unit : ℕ) (word : List ℕ) → IsUnitEscape unit word
    → (digits : List ℕ) × (word ≡ 92 ∷ 117 ∷ digits)
    × ((rest : List ℕ) → unit_digits (digits ++ rest) ≡ Some (unit, rest))
unit_ahead unit word h = (
  h.first ∷ h.second ∷ h.third ∷ h.fourth ∷ [],
  h.spelled,
  λ rest. digits_ahead h.first h.second h.third h.fourth rest h.is_first h.is_second h.is_third h.is_fourth
      ∙ ap (λ (n : ℕ). Some (n, rest)) (omega (arith, h.value)),
)

digit_behind : (number : ℕ) (text : List ℕ) (unit : ℕ) (rest : List ℕ) → one_digit number text ≡ Some (unit, rest)
    → (d : ℕ) × (text ≡ d ∷ rest) × (digit_value d < 16) × (unit ≡ number * 16 + digit_value d)
digit_behind number [] unit rest e = absurd (none-some _ e)
digit_behind number (c ∷ more) unit rest e =
    elim (which (nat_lt (digit_value c) 16) (Some (number * 16 + digit_value c, more)) None _ e) [
      | inl found ↦ (
        c,
        ap (λ (l : List ℕ). c ∷ l) (same_rest _ unit more rest found.1),
        ltb-true (digit_value c) 16 found.0,
        sym (same_first _ unit more rest found.1),
      )
      | inr none ↦ absurd (none-some _ none.1)
    ]

more_behind : (front : TakenOff) (unit : ℕ) (rest : List ℕ) → one_more_digit front ≡ Some (unit, rest)
    → (number : ℕ) × (text : List ℕ) × (front ≡ Some (number, text)) × (one_digit number text ≡ Some (unit, rest))
more_behind None unit rest e = absurd (none-some _ e)
more_behind (Some (number, text)) unit rest e = (number, text, refl, e)

-- what is read as four digits is the digits of an escape
pub unit_from : (text : List ℕ) (unit : ℕ) (rest : List ℕ) → unit_digits text ≡ Some (unit, rest)
    → (digits : List ℕ) × IsUnitEscape unit (92 ∷ 117 ∷ digits) × (text ≡ digits ++ rest)
unit_from text unit rest e =
    let x = more_behind (one_more_digit (one_more_digit (one_digit 0 text))) unit rest e in
    let y = more_behind (one_more_digit (one_digit 0 text)) x.0 x.1 x.2 in
    let z = more_behind (one_digit 0 text) y.0 y.1 y.2 in
    let a = digit_behind 0 text z.0 z.1 z.2 in
    let b = digit_behind z.0 z.1 y.0 y.1 z.3 in
    let c = digit_behind y.0 y.1 x.0 x.1 y.3 in
    let d = digit_behind x.0 x.1 unit rest x.3 in (
      a.0 ∷ b.0 ∷ c.0 ∷ d.0 ∷ [],
      record {
        first = a.0;
        second = b.0;
        third = c.0;
        fourth = d.0;
        is_first = a.2;
        is_second = b.2;
        is_third = c.2;
        is_fourth = d.2;
        value = omega (arith, a.3, b.3, c.3, d.3);
        spelled = refl {a = 92 ∷ 117 ∷ a.0 ∷ b.0 ∷ c.0 ∷ d.0 ∷ []};
      },
      a.1 ∙ ap (λ (l : List ℕ). a.0 ∷ l) (b.1 ∙ ap (λ (l : List ℕ). b.0 ∷ l) (c.1 ∙ ap (λ (l : List ℕ). c.0 ∷ l) d.1)),
    )

-- ---- one character

-- a letter that stands for a character is no `u`
no_unit : (letter c : ℕ) → escaped_by letter ≡ Some c → (letter == 117) ≡ false
no_unit letter c e = elim (cases_Bool (letter == 117)) [
  | inl is ↦ absurd (none-some c (subst (λ (n : ℕ). escaped_by n ≡ Some c) (eqb-true letter 117 is) e))
  | inr isnt ↦ isnt
]

letter_ahead : (letter c : ℕ) (rest : List ℕ) → escaped_by letter ≡ Some c
    → front_character (92 ∷ letter ∷ rest) ≡ Some (c, rest)
letter_ahead letter c rest e =
    cond-false (letter == 117) (from_unit (unit_digits rest)) (with_rest (escaped_by letter) rest) (no_unit letter c e)
    ∙ ap (λ (o : Option ℕ). with_rest o rest) e

-- a character that stands as itself is no backslash
no_mark : (c : ℕ) → is_unescaped c ≡ true → (c == 92) ≡ false
no_mark c e = elim (cases_Bool (c == 92)) [
  | inl is ↦ absurd (false≢true (subst (λ (n : ℕ). is_unescaped n ≡ true) (eqb-true c 92 is) e))
  | inr isnt ↦ isnt
]

plain_ahead : (c : ℕ) (rest : List ℕ) → is_unescaped c ≡ true → front_character (c ∷ rest) ≡ Some (c, rest)
plain_ahead c rest e =
    cond-false (c == 92) (escaped_front rest) (if is_unescaped c then Some (c, rest) else None) (no_mark c e)
    ∙ cond-true (is_unescaped c) (Some (c, rest)) None e

alone_ahead : (c : ℕ) (digits rest : List ℕ) → is_alone c ≡ true → unit_digits (digits ++ rest) ≡ Some (c, rest)
    → front_character ((92 ∷ 117 ∷ digits) ++ rest) ≡ Some (c, rest)
alone_ahead c digits rest alone e = ap from_unit e
    ∙ cond-true (is_alone c) (Some (c, rest)) (paired_with c (unit_behind rest)) alone

-- the first half of a pair isn't alone
high_alone : (high : ℕ) → is_high_surrogate high ≡ true → is_alone high ≡ false
high_alone high e = rw e refl

pair_ahead : (high low : ℕ) (front back rest : List ℕ) → is_high_surrogate high ≡ true → is_low_surrogate low ≡ true
    → unit_digits (front ++ ((92 ∷ 117 ∷ back) ++ rest)) ≡ Some (high, (92 ∷ 117 ∷ back) ++ rest)
    → unit_digits (back ++ rest) ≡ Some (low, rest)
    → front_character ((92 ∷ 117 ∷ front) ++ ((92 ∷ 117 ∷ back) ++ rest)) ≡ Some (surrogate_pair_char high low, rest)
pair_ahead high low front back rest is_high is_low e f = ap from_unit e
    ∙ (cond-false (is_alone high) (found high ((92 ∷ 117 ∷ back) ++ rest))
    (paired_with high (unit_behind ((92 ∷ 117 ∷ back) ++ rest))) (high_alone high is_high)
    ∙ (ap (λ (t : TakenOff). paired_with high t) f
    ∙ cond-true (is_high_surrogate high && is_low_surrogate low) (Some (surrogate_pair_char high low, rest)) None
    (and_from (is_high_surrogate high) (is_low_surrogate low) is_high is_low)))

pair_word_ahead : (c : ℕ) (word rest : List ℕ) → IsPairEscape c word → front_character (word ++ rest) ≡ Some (c, rest)
pair_word_ahead c word rest h =
    let front = unit_ahead h.high h.front h.is_front in
    let back = unit_ahead h.low h.back h.is_back in
    let all : word ++ rest ≡ (92 ∷ 117 ∷ front.0) ++ ((92 ∷ 117 ∷ back.0) ++ rest) =
    ap (λ (l : List ℕ). l ++ rest) (h.spelled ∙ ap₂ (λ (a b : List ℕ). a ++ b) front.1 back.1)
    ∙ append_assoc (92 ∷ 117 ∷ front.0) (92 ∷ 117 ∷ back.0) rest in
    ap front_character all
    ∙ (pair_ahead h.high h.low front.0 back.0 rest h.is_high h.is_low (front.2 ((92 ∷ 117 ∷ back.0) ++ rest))
    (back.2 rest) ∙ ap (λ (n : ℕ). Some (n, rest)) (sym h.character))

-- a word that stands for a character is taken for it, whatever follows
pub front_ahead : (c : ℕ) (word rest : List ℕ) → StandsFor c word → front_character (word ++ rest) ≡ Some (c, rest)
front_ahead c word rest (inl (plain, e)) =
    ap (λ (l : List ℕ). front_character (l ++ rest)) e ∙ plain_ahead c rest plain
front_ahead c word rest (inr (inl (letter, is, e))) =
    ap (λ (l : List ℕ). front_character (l ++ rest)) e ∙ letter_ahead letter c rest is
front_ahead c word rest (inr (inr (inl (alone, is)))) =
    let unit = unit_ahead c word is in
    ap (λ (l : List ℕ). front_character (l ++ rest)) unit.1 ∙ alone_ahead c unit.0 rest alone (unit.2 rest)
front_ahead c word rest (inr (inr (inr is))) = pair_word_ahead c word rest is

-- ---- and no other

-- a word in front of the rest that stands for the character
abbrev pub WordInFront : List ℕ → ℕ → List ℕ → Type 0
WordInFront text c rest = (word : List ℕ) × StandsFor c word × (text ≡ word ++ rest)

letter_from : (letter : ℕ) (text : List ℕ) (c : ℕ) (rest : List ℕ)
    → with_rest (escaped_by letter) text ≡ Some (c, rest) → (escaped_by letter ≡ Some c) × (text ≡ rest)
letter_from letter text c rest e = by_case (escaped_by letter) e
  where
    by_case : (o : Option ℕ) → with_rest o text ≡ Some (c, rest) → (o ≡ Some c) × (text ≡ rest)
    by_case None f = absurd (none-some _ f)
    by_case (Some d) f = (ap Some (same_first d c text rest f), same_rest d c text rest f)

unit_behind_from : (text : List ℕ) (unit : ℕ) (rest : List ℕ) → unit_behind text ≡ Some (unit, rest)
    → (word : List ℕ) × IsUnitEscape unit word × (text ≡ word ++ rest)
unit_behind_from [] unit rest e = absurd (none-some _ e)
unit_behind_from (a ∷ []) unit rest e = absurd (none-some _ e)
unit_behind_from (a ∷ b ∷ text) unit rest e =
    elim (which (a == 92 && b == 117) (unit_digits text) None _ e) [
      | inl found ↦
          let marks = and_parts (a == 92) (b == 117) found.0 in
          let digits = unit_from text unit rest found.1 in (
            92 ∷ 117 ∷ digits.0,
            digits.1,
            ap₂ (λ (m n : ℕ). m ∷ n ∷ text) (eqb-true a 92 marks.0) (eqb-true b 117 marks.1)
                ∙ ap (λ (l : List ℕ). 92 ∷ 117 ∷ l) digits.2,
          )
      | inr none ↦ absurd (none-some _ none.1)
    ]

paired_from : (high : ℕ) (t : TakenOff) (c : ℕ) (rest : List ℕ) → paired_with high t ≡ Some (c, rest)
    → (low : ℕ) × (t ≡ Some (low, rest)) × (is_high_surrogate high ≡ true) × (is_low_surrogate low ≡ true)
    × (c ≡ surrogate_pair_char high low)
paired_from high None c rest e = absurd (none-some _ e)
paired_from high (Some (low, more)) c rest e =
    elim (which (is_high_surrogate high && is_low_surrogate low) (Some (surrogate_pair_char high low, more)) None _ e) [
      | inl found ↦
          let halves = and_parts (is_high_surrogate high) (is_low_surrogate low) found.0 in (
            low,
            ap (λ (l : List ℕ). Some (low, l)) (same_rest _ c more rest found.1),
            halves.0,
            halves.1,
            sym (same_first _ c more rest found.1),
          )
      | inr none ↦ absurd (none-some _ none.1)
    ]

unit_word_from : (text : List ℕ) (c : ℕ) (rest : List ℕ) → from_unit (unit_digits text) ≡ Some (c, rest)
    → WordInFront (92 ∷ 117 ∷ text) c rest
unit_word_from text c rest e = by_case (unit_digits text) refl e
  where
    by_case : (t : TakenOff) → unit_digits text ≡ t → from_unit t ≡ Some (c, rest)
        → WordInFront (92 ∷ 117 ∷ text) c rest
    by_case None is f = absurd (none-some _ f)
    by_case (Some (unit, more)) is f =
        let digits = unit_from text unit more is in
        let whole : 92 ∷ 117 ∷ text ≡ (92 ∷ 117 ∷ digits.0) ++ more = ap (λ (l : List ℕ). 92 ∷ 117 ∷ l) digits.2 in
        elim (which (is_alone unit) (Some (unit, more)) (paired_with unit (unit_behind more)) _ f) [
          | inl found ↦
              let same = same_first unit c more rest found.1 in (
                92 ∷ 117 ∷ digits.0,
                inr (inr (inl (
                  subst (λ (n : ℕ). is_alone n ≡ true) same found.0,
                  subst (λ (n : ℕ). IsUnitEscape n (92 ∷ 117 ∷ digits.0)) same digits.1,
                ))),
                whole ∙ ap (λ (l : List ℕ). (92 ∷ 117 ∷ digits.0) ++ l) (same_rest unit c more rest found.1),
              )
          | inr pair ↦
              let low = paired_from unit (unit_behind more) c rest pair.1 in
              let back = unit_behind_from more low.0 rest low.1 in (
                (92 ∷ 117 ∷ digits.0) ++ back.0,
                inr (inr (inr (record {
                  high = unit;
                  low = low.0;
                  front = 92 ∷ 117 ∷ digits.0;
                  back = back.0;
                  is_front = digits.1;
                  is_back = back.1;
                  is_high = low.2;
                  is_low = low.3;
                  character = low.4;
                  spelled = refl;
                }))),
                whole ∙ (ap (λ (l : List ℕ). (92 ∷ 117 ∷ digits.0) ++ l) back.2
                    ∙ sym (append_assoc (92 ∷ 117 ∷ digits.0) back.0 rest)),
              )
        ]

escape_from : (text : List ℕ) (c : ℕ) (rest : List ℕ) → escaped_front text ≡ Some (c, rest)
    → WordInFront (92 ∷ text) c rest
escape_from [] c rest e = absurd (none-some _ e)
escape_from (letter ∷ text) c rest e =
    elim (which (letter == 117) (from_unit (unit_digits text)) (with_rest (escaped_by letter) text) _ e) [
      | inl found ↦
          subst (λ (n : ℕ). WordInFront (92 ∷ n ∷ text) c rest) (sym (eqb-true letter 117 found.0))
          (unit_word_from text c rest found.1)
      | inr other ↦
          let x = letter_from letter text c rest other.1 in
          (92 ∷ letter ∷ [], inr (inl (letter, x.0, refl)), ap (λ (l : List ℕ). 92 ∷ letter ∷ l) x.1)
    ]

-- what is taken off the front of a text is a word that stands for it
pub front_from : (text : List ℕ) (c : ℕ) (rest : List ℕ) → front_character text ≡ Some (c, rest)
    → WordInFront text c rest
front_from [] c rest e = absurd (none-some _ e)
front_from (d ∷ text) c rest e =
    elim (which (d == 92) (escaped_front text) (if is_unescaped d then Some (d, text) else None) _ e) [
      | inl found ↦
          subst (λ (n : ℕ). WordInFront (n ∷ text) c rest) (sym (eqb-true d 92 found.0))
          (escape_from text c rest found.1)
      | inr other ↦
          elim (which (is_unescaped d) (Some (d, text)) None _ other.1) [
            | inl plain ↦
                let same = same_first d c text rest plain.1 in (
                  c ∷ [],
                  inl (subst (λ (n : ℕ). is_unescaped n ≡ true) same plain.0, refl),
                  ap₂ (λ (n : ℕ) (l : List ℕ). n ∷ l) same (same_rest d c text rest plain.1),
                )
            | inr none ↦ absurd (none-some _ none.1)
          ]
    ]

-- ---- half of a pair

half : (unit : ℕ) → unit < 65536 → OutOfScalarRange unit → is_alone unit ≡ false
half unit small (inl is) = let low = is.0 in let high = is.1 in grind (arith, nat_tests)
half unit small (inr large) = absurd (omega (arith, small, large))

-- four digits that are no character are taken with the escape that follows
pub half_ahead : (text : List ℕ) (unit : ℕ) (rest : List ℕ) (r : Option (ℕ × Bor (List ℕ)))
    → unit_digits text ≡ Some (unit, rest) → OutOfScalarRange unit → IsTakenOff (paired_with unit (unit_behind rest)) r
    → IsTakenOff (from_unit (unit_digits text)) r
half_ahead text unit rest r e out h =
    let digits = unit_from text unit rest e in
    let is = digits.1 in
    let small : unit < 65536 = omega (arith, is.value, is.is_first, is.is_second, is.is_third, is.is_fourth) in
    let same : from_unit (unit_digits text) ≡ paired_with unit (unit_behind rest) = ap from_unit e
    ∙ cond-false (is_alone unit) (found unit rest) (paired_with unit (unit_behind rest)) (half unit small out) in
    subst (λ (t : TakenOff). IsTakenOff t r) (sym same) h
