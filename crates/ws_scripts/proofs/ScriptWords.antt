-- The words of a script's line are cut from its front in one way.
use Rattle.std.proofs.Common.{◌≡◌, ◌≢◌, ◌∙◌, ℕ, suc, ◌/◌, ◌%◌, ◌<◌, ◌^◌, inl, inr, Bool, true, false, ◌&&◌}
use Rattle.std.proofs.Common.{if◌then◌else◌, ◌==◌, List, [], ◌∷◌}
use Rattle.std.proofs.Common.{◌++◌, Option, Some, None, ap, ap₂, sym, refl, subst, arith, append_assoc, slice_index}
use Rattle.std.proofs.lemmas.Bool.Decides.{nat_tests}
use Rattle.std.proofs.lemmas.List.{append_cancel_left}
use Rattle.std.proofs.lemmas.List.Elements.{All-cons, All-from_get_or, All-nil, All-same}
use Rattle.std.proofs.lemmas.Str.Parse.{IsNumeralModel, not_in_digits}
use Rattle.std.specs.List.{All, list_all}
use Rattle.std.specs.Str.Parse.{AllDigits, digits_value}
use Rattle.ws_base.specs.Bytes.{AreBytes}
use Rattle.ws_formats.specs.Words.{IsNumberWord, hex}
use Rattle.ws_formats.proofs.HexWords.{glyph_above, hex_cons, high_of, low_of}
use Rattle.ws_formats.proofs.NumberWords.{number_digits}
use Rattle.ws_scripts.specs.ScriptLines.{IsField}
use Rattle.ws_scripts.specs.InnerScripting.{CutsField, FindsCut, IsRest, Lacks, NoSpace}

-- ---- characters that don't stand in a word

abbrev pub IsNot : ℕ → ℕ → Type 0
IsNot c byte = byte ≢ c

abbrev pub Avoids : ℕ → List ℕ → Type 0
Avoids c word = All (IsNot c) word

abbrev pub is_other : ℕ → ℕ → Bool
is_other c byte = if byte == c then false else true

other_by : (c byte : ℕ) → is_other c byte ≡ true → byte ≢ c
other_by c byte h e = grind (arith, nat_tests)

-- for a word that is given letter by letter
pub avoids_by : (c : ℕ) (word : List ℕ) → list_all (is_other c) word ≡ true → Avoids c word
avoids_by c [] h = All-nil (IsNot c)
avoids_by c (b ∷ word) h =
    let both = both_true (is_other c b) (list_all (is_other c) word) h in
    All-cons (IsNot c) b word (other_by c b both.0) (avoids_by c word both.1)
  where
    both_true : (x y : Bool) → (x && y) ≡ true → (x ≡ true) × (y ≡ true)
    both_true true y e = (refl, e)
    both_true false y e = absurd cc

pub bare_by : (word letters : List ℕ) → word ≡ letters → list_all (is_other 32) letters ≡ true → NoSpace word
bare_by word letters e h = subst (λ (l : List ℕ). NoSpace l) (sym e) (avoids_by 32 letters h)

pub hex_avoids : (c : ℕ) → c < 48 → (bytes : List ℕ) → AreBytes bytes → Avoids c (hex bytes)
hex_avoids c low [] are = All-nil (IsNot c)
hex_avoids c low (b ∷ bytes) are =
    let high = glyph_above (b / 16) in
    let less = glyph_above (b % 16) in
    let not_high : high_of b ≢ c = λ e. omega (arith, high, low, e) in
    let not_low : low_of b ≢ c = λ e. omega (arith, less, low, e) in
    let more : Avoids c (hex bytes) = hex_avoids c low bytes (λ i. are (suc i)) in
    All-same (IsNot c) (hex (b ∷ bytes)) (high_of b ∷ low_of b ∷ hex bytes) (hex_cons b bytes (are 0))
    (All-cons (IsNot c) (high_of b) (low_of b ∷ hex bytes) not_high
    (All-cons (IsNot c) (low_of b) (hex bytes) not_low more))

own : IsNumeralModel (AllDigits 10) (digits_value 10)
own = record { to = λ ds h. h; from = λ ds h. h; same = λ ds h. refl }

pub number_avoids : (c most number : ℕ) (word : List ℕ) → c < 48 → most < 2 ^ 64 → IsNumberWord most number word
    → Avoids c word
number_avoids c most number word low small h =
    let d = number_digits most number word small h in
    All-from_get_or (IsNot c) word 0 (λ i less. not_in_digits own word c d.1 (λ r. omega (arith, r)) i less)

-- ---- one word

word_tail : (b : ℕ) (word : List ℕ) → NoSpace (b ∷ word) → NoSpace word
word_tail b word h k d less = h (suc k) d (omega arith)

no_word_first : (c : ℕ) (b x y : List ℕ) → NoSpace (c ∷ b) → IsRest x → x ≡ c ∷ (b ++ y) → ⊥
no_word_first c b x y h (inl e) f = let wrong : [] ≡ c ∷ (b ++ y) = sym e ∙ f in absurd cc
no_word_first c b x y h (inr (more, e)) f =
    h 0 0 (omega arith) (sym (ap (λ (l : List ℕ). slice_index l 0) (sym e ∙ f)))

-- a text has one first word
pub one_word : (a b x y : List ℕ) → NoSpace a → NoSpace b → IsRest x → IsRest y → a ++ x ≡ b ++ y
    → (a ≡ b) × (x ≡ y)
one_word [] [] x y p q r s e = (refl, e)
one_word [] (c ∷ b) x y p q r s e = absurd (no_word_first c b x y q r e)
one_word (c ∷ a) [] x y p q r s e = absurd (no_word_first c a y x p s (sym e))
one_word (c ∷ a) (d ∷ b) x y p q r s e =
    let head : c ≡ d = ap (λ (l : List ℕ). slice_index l 0) e in
    let tail : a ++ x ≡ b ++ y = cc in
    let rest = one_word a b x y (word_tail c a p) (word_tail d b q) r s tail in
    (ap₂ (λ (z : ℕ) (zs : List ℕ). z ∷ zs) head rest.0, rest.1)

-- ---- one field

module _ {T : Type 0} (name : List ℕ) (usual : T) (IsValue : T → List ℕ → Type 0) where
  pub field_of_cut : (value : T) (rest text : List ℕ) → CutsField name usual IsValue value rest text
      → (words : List ℕ) × IsField name usual IsValue value words × (text ≡ words ++ rest)
  field_of_cut value rest text (inl (e, f, lacks)) = ([], inl (e, refl), sym f)
  field_of_cut value rest text (inr (word, is, ends, e)) =
      (name ++ word, inr (word, is, refl), e ∙ sym (append_assoc name word rest))

  pub cut_of_field : (value : T) (words rest : List ℕ) → IsField name usual IsValue value words → Lacks name rest
      → IsRest rest → CutsField name usual IsValue value rest (words ++ rest)
  cut_of_field value words rest (inl (e, f)) lacks ends =
      let all : rest ≡ words ++ rest = ap (λ (l : List ℕ). l ++ rest) (sym f) in
      inl (e, all, subst (λ (l : List ℕ). Lacks name l) all lacks)
  cut_of_field value words rest (inr (word, is, f)) lacks ends =
      inr (word, is, ends, ap (λ (l : List ℕ). l ++ rest) f ∙ append_assoc name word rest)

  -- the value of a field that stands first
  module _ (bare : (value : T) (word : List ℕ) → IsValue value word → NoSpace word) where
    pub cut_value : (word after text : List ℕ) → (text ≡ name ++ (word ++ after)) × NoSpace word × IsRest after
        → (value : T) (rest : List ℕ) → CutsField name usual IsValue value rest text
        → IsValue value word × (rest ≡ after)
    cut_value word after text (e, plain, ends) value rest (inl (f, g, lacks)) = absurd (lacks (word ++ after) e)
    cut_value word after text (e, plain, ends) value rest (inr (other, is, left, f)) =
        let same = one_word other word rest after (bare value other is) plain left ends
        (append_cancel_left name (other ++ rest) (word ++ after) (sym f ∙ e)) in
        (subst (λ (l : List ℕ). IsValue value l) same.0 is, same.1)

    pub one_cut : ((a b : T) (word : List ℕ) → IsValue a word → IsValue b word → a ≡ b)
        → (a b : T) (x y text : List ℕ) → CutsField name usual IsValue a x text
        → CutsField name usual IsValue b y text → (a ≡ b) × (x ≡ y)
    one_cut one a b x y text (inl (e, f, lacks)) (inl (g, h, too)) = (e ∙ sym g, f ∙ sym h)
    one_cut one a b x y text (inl (e, f, lacks)) (inr (word, is, ends, g)) = absurd (lacks (word ++ y) g)
    one_cut one a b x y text (inr (word, is, ends, g)) other =
        let same = cut_value word x text (g, bare a word is, ends) b y other in
        (one a b word is same.0, sym same.1)

-- before others that don't begin with a name, a field with another name doesn't either
pub field_lacks : {T : Type 0} (name other : List ℕ) (usual : T) (IsValue : T → List ℕ → Type 0) (value : T)
    (words rest : List ℕ) → ((a b : List ℕ) → other ++ a ≡ name ++ b → ⊥)
    → IsField other usual IsValue value words → Lacks name rest → Lacks name (words ++ rest)
field_lacks name other usual IsValue value words rest differ (inl (e, f)) lacks =
    subst (λ (l : List ℕ). Lacks name l) (ap (λ (l : List ℕ). l ++ rest) (sym f)) lacks
field_lacks name other usual IsValue value words rest differ (inr (word, is, f)) lacks = λ more e.
    differ (word ++ rest) more (sym (append_assoc other word rest) ∙ (ap (λ (l : List ℕ). l ++ rest) (sym f) ∙ e))

pub field_rest : {T : Type 0} (other : List ℕ) (usual : T) (IsValue : T → List ℕ → Type 0) (value : T)
    (words rest : List ℕ) → IsField (32 ∷ other) usual IsValue value words → IsRest rest → IsRest (words ++ rest)
field_rest other usual IsValue value words rest (inl (e, f)) ends =
    subst (λ (l : List ℕ). IsRest l) (ap (λ (l : List ℕ). l ++ rest) (sym f)) ends
field_rest other usual IsValue value words rest (inr (word, is, f)) ends =
    inr ((other ++ word) ++ rest, ap (λ (l : List ℕ). l ++ rest) f)

-- ---- what is told where a part was not found

pub no_cut : {S T : Type 0} (P : S → Type 0) (Q : T → List ℕ → Type 0) (r : Option _) → r ≡ None
    → ((x : S) → P x → ⊥) → ((value : T) (rest : List ℕ) → Q value rest → (x : S) × P x) → FindsCut Q r
no_cut P Q (Some found) is none part = absurd cc
no_cut P Q None is none part = λ value rest h. let x = part value rest h in none x.0 x.1
