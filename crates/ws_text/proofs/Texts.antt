-- Texts: joined, cut, and their unfinished characters.
use Rattle.std.proofs.Common.{◌≡◌, ℕ, ◌≤◌, ◌⊎◌, true, false, List, [], ◌∷◌, ◌++◌, length, refl, sym, ap, ◌∙◌, append_assoc, arith, inl, inr, subst}
use Rattle.std.specs.List.{flat_map}
use Rattle.std.specs.Prelude.{All, IsUtf8, ◌↔◌, nat_lt as ltb, nat_le as leb}
use Rattle.std.proofs.lemmas.Str.{encode_same}
use Rattle.std.proofs.lemmas.List.{append-nil, length-append}
use Rattle.std.proofs.lemmas.List.Concat.{flat_map-append}
use Rattle.std.proofs.lemmas.List.Elements.{All-nil, All-cons, All-head, All-tail, All-append}
use Rattle.std.proofs.lemmas.Bool.{and_parts, and_from, le-ltb, lt-ltb, le-leb}
use lib.Utf8.{encode, encodes, scalar, scalars, scalar_cases, low_scalar}
use Rattle.ws_text.specs.Text.{IsText, BeginsText, char_bytes, IsScalarValue, IsUnfinished, HasUnfinished}
use Rattle.ws_text.specs.InnerStep.{IsCharacter}
use Rattle.ws_text.proofs.UnfinishedCharacters.{no_empty, character_length}

-- ---- std's words

-- std's bytes of a character are the formulas
pub encode_is : (c : ℕ) → encode c ≡ char_bytes c
unfolding encode char_bytes
encode_is c = refl

pub encodes_is : (cs : List ℕ) → encodes cs ≡ flat_map char_bytes cs
encodes_is [] = refl
encodes_is (c ∷ cs) = ap (λ (l : List ℕ). l ++ encodes cs) (encode_is c) ∙ ap (λ (l : List ℕ). char_bytes c ++ l) (encodes_is cs)

is_value : (c : ℕ) → scalar c ≡ true → IsScalarValue c
is_value c e = elim (scalar_cases c e) [ inl h ↦ inl h | inr h ↦ inr (omega (arith, h.0), h.1) ]

are_values : (cs : List ℕ) → scalars cs ≡ true → All IsScalarValue cs
are_values [] e = All-nil IsScalarValue
are_values (c ∷ cs) e = let p = and_parts (scalar c) (scalars cs) e in All-cons IsScalarValue c cs (is_value c p.0) (are_values cs p.1)

is_scalar : (c : ℕ) → IsScalarValue c → scalar c ≡ true
is_scalar c (inl h) = low_scalar c h
is_scalar c (inr h) =
    let a : ltb c 55296 ≡ false = le-ltb c 55296 (omega (arith, h.0)) in
    let b : leb 57344 c ≡ true = le-leb 57344 c (omega (arith, h.0)) in
    let d : ltb c 1114112 ≡ true = lt-ltb c 1114112 h.1 in
    rw (a, b, d) refl

are_scalars : (cs : List ℕ) → All IsScalarValue cs → scalars cs ≡ true
are_scalars [] h = refl
are_scalars (c ∷ cs) h = and_from (scalar c) (scalars cs) (is_scalar c (All-head IsScalarValue c cs h)) (are_scalars cs (All-tail IsScalarValue c cs h))

pub text_from_utf8 : (bytes : List ℕ) → IsUtf8 bytes → IsText bytes
text_from_utf8 bytes h = record { characters = h.0; scalar = are_values h.0 h.1.0; spelled = sym h.1.1 ∙ encodes_is h.0 }

pub utf8_from_text : (bytes : List ℕ) → IsText bytes → IsUtf8 bytes
utf8_from_text bytes t = (t.characters, (are_scalars t.characters t.scalar, encodes_is t.characters ∙ sym t.spelled))

-- ---- joining

pub no_text : IsText []
no_text = record { characters = []; scalar = All-nil IsScalarValue; spelled = refl }

pub text_of_character : (c : ℕ) (bytes : List ℕ) → IsCharacter c bytes → IsText bytes
text_of_character c bytes h = record {
  characters = c ∷ [];
  scalar = All-cons IsScalarValue c [] h.scalar (All-nil IsScalarValue);
  spelled = h.spelled ∙ sym (append-nil (char_bytes c));
}

pub text_append : (a b : List ℕ) → IsText a → IsText b → IsText (a ++ b)
text_append a b s t = record {
  characters = s.characters ++ t.characters;
  scalar = All-append IsScalarValue s.characters t.characters s.scalar t.scalar;
  spelled = ap (λ (l : List ℕ). l ++ b) s.spelled ∙ ap (λ (l : List ℕ). flat_map char_bytes s.characters ++ l) t.spelled ∙ sym (flat_map-append char_bytes s.characters t.characters);
}

-- ---- parting

-- bytes begin with the bytes of at most one character
same_character : (c d : ℕ) (r t : List ℕ) → char_bytes c ++ r ≡ char_bytes d ++ t → (c ≡ d) × (r ≡ t)
same_character c d r t e = encode_same c d r t (ap (λ (l : List ℕ). l ++ r) (encode_is c) ∙ e ∙ ap (λ (l : List ℕ). l ++ t) (sym (encode_is d)))

no_end : (xs : List ℕ) (b : ℕ) (more : List ℕ) → xs ++ b ∷ more ≡ [] → ⊥
no_end [] b more e = cc
no_end (x ∷ xs) b more e = cc

nothing_before : (xs ys : List ℕ) → [] ≡ xs ++ ys → [] ≡ xs
nothing_before [] ys e = refl
nothing_before (x ∷ xs) ys e = absurd cc

no_bytes : (c : ℕ) (rest : List ℕ) → IsScalarValue c → [] ≡ char_bytes c ++ rest → ⊥
no_bytes c rest s e = no_empty c s (nothing_before (char_bytes c) rest e)

-- a text without a text at its front is a text
rest_of : (cs ds x : List ℕ) → All IsScalarValue cs → All IsScalarValue ds → flat_map char_bytes cs ++ x ≡ flat_map char_bytes ds → IsText x
rest_of [] ds x a b e = record { characters = ds; scalar = b; spelled = e }
rest_of (c ∷ cs) [] x a b e = absurd (no_bytes c (flat_map char_bytes cs ++ x) (All-head IsScalarValue c cs a) (sym e ∙ append_assoc (char_bytes c) (flat_map char_bytes cs) x))
rest_of (c ∷ cs) (d ∷ ds) x a b e = rest_of cs ds x (All-tail IsScalarValue c cs a) (All-tail IsScalarValue d ds b) (same_character c d (flat_map char_bytes cs ++ x) (flat_map char_bytes ds) (sym (append_assoc (char_bytes c) (flat_map char_bytes cs) x) ∙ e)).1

pub text_rest : (front x : List ℕ) → IsText front → IsText (front ++ x) → IsText x
text_rest front x f t = rest_of f.characters t.characters x f.scalar t.scalar (ap (λ (l : List ℕ). l ++ x) (sym f.spelled) ∙ t.spelled)

-- two partings of one list: the first front goes on from the second, or ends inside it
pub splits : (a b c d : List ℕ) → a ++ b ≡ c ++ d → ((x : List ℕ) × (a ≡ c ++ x) × (x ++ b ≡ d)) ⊎ ((n : ℕ) × (m : List ℕ) × (c ≡ a ++ n ∷ m))
splits [] b [] d e = inl ([], refl, e)
splits [] b (y ∷ c) d e = inr (y, c, refl)
splits (x ∷ a) b [] d e = inl (x ∷ a, refl, e)
splits (x ∷ a) b (y ∷ c) d e =
    let same : x ≡ y = cc in
    let rest : a ++ b ≡ c ++ d = cc in
    elim (splits a b c d rest) [
      | inl h ↦ inl (h.0, cc (h.1, same), h.2)
      | inr h ↦ inr (h.0, h.1, cc (h.2, same))
    ]

-- ---- the unfinished character

pub unfinished_after : (front bytes tail : List ℕ) → IsText front → HasUnfinished bytes tail → HasUnfinished (front ++ bytes) tail
unfinished_after front bytes tail f h = record {
  front = front ++ h.front;
  is_text = text_append front h.front f h.is_text;
  parts = ap (λ (l : List ℕ). front ++ l) h.parts ∙ sym (append_assoc front h.front tail);
  unfinished = h.unfinished;
}

pub unfinished_alone : (tail : List ℕ) → IsUnfinished tail → HasUnfinished tail tail
unfinished_alone tail u = record { front = []; is_text = no_text; parts = refl; unfinished = u }

pub unfinished_of_text : (bytes : List ℕ) → IsText bytes → HasUnfinished bytes []
unfinished_of_text bytes t = record { front = bytes; is_text = t; parts = sym (append-nil bytes); unfinished = inl refl }

unfinished_in : (cs bytes more : List ℕ) → All IsScalarValue cs → bytes ++ more ≡ flat_map char_bytes cs → (tail : List ℕ) × HasUnfinished bytes tail
unfinished_in [] [] more s e = ([], unfinished_of_text [] no_text)
unfinished_in [] (b ∷ bytes) more s e = absurd cc
unfinished_in (c ∷ cs) bytes more s e =
    let first = All-head IsScalarValue c cs s in
    elim (splits bytes more (char_bytes c) (flat_map char_bytes cs) e) [
      | inl h ↦
          let rest = unfinished_in cs h.0 more (All-tail IsScalarValue c cs s) h.2 in
          (rest.0, subst (λ (l : List ℕ). HasUnfinished l rest.0) (sym h.1) (unfinished_after (char_bytes c) h.0 rest.0 (text_of_character c (char_bytes c) (record { scalar = first; spelled = refl })) rest.1))
      | inr h ↦ (bytes, unfinished_alone bytes (inr (c, record { scalar = first; next = h.0; more = h.1; missing = sym h.2 })))
    ]

pub some_unfinished : (bytes : List ℕ) → BeginsText bytes → (tail : List ℕ) × HasUnfinished bytes tail
some_unfinished bytes h = unfinished_in h.is_text.characters bytes h.more h.is_text.scalar h.is_text.spelled

-- an unfinished character begins with no character
no_character_in : (tail : List ℕ) (d : ℕ) (rest : List ℕ) → IsUnfinished tail → IsScalarValue d → tail ≡ char_bytes d ++ rest → ⊥
no_character_in tail d rest (inl none) s e = no_bytes d rest s (sym none ∙ e)
no_character_in tail d rest (inr u) s e =
    let cut = u.1 in
    let same = same_character d u.0 (rest ++ cut.next ∷ cut.more) [] (sym (append_assoc (char_bytes d) rest (cut.next ∷ cut.more)) ∙ ap (λ (l : List ℕ). l ++ cut.next ∷ cut.more) (sym e) ∙ cut.missing ∙ sym (append-nil (char_bytes u.0))) in
    no_end rest cut.next cut.more same.1

same_tail : (cs ds tail other : List ℕ) → All IsScalarValue cs → All IsScalarValue ds → IsUnfinished tail → IsUnfinished other → flat_map char_bytes cs ++ tail ≡ flat_map char_bytes ds ++ other → tail ≡ other
same_tail [] [] tail other a b u v e = e
same_tail [] (d ∷ ds) tail other a b u v e = absurd (no_character_in tail d (flat_map char_bytes ds ++ other) u (All-head IsScalarValue d ds b) (e ∙ append_assoc (char_bytes d) (flat_map char_bytes ds) other))
same_tail (c ∷ cs) [] tail other a b u v e = absurd (no_character_in other c (flat_map char_bytes cs ++ tail) v (All-head IsScalarValue c cs a) (sym e ∙ append_assoc (char_bytes c) (flat_map char_bytes cs) tail))
same_tail (c ∷ cs) (d ∷ ds) tail other a b u v e =
    same_tail cs ds tail other (All-tail IsScalarValue c cs a) (All-tail IsScalarValue d ds b) u v
    (same_character c d (flat_map char_bytes cs ++ tail) (flat_map char_bytes ds ++ other) (sym (append_assoc (char_bytes c) (flat_map char_bytes cs) tail) ∙ e ∙ append_assoc (char_bytes d) (flat_map char_bytes ds) other)).1

pub same_unfinished : (bytes tail other : List ℕ) → HasUnfinished bytes tail → HasUnfinished bytes other → tail ≡ other
same_unfinished bytes tail other h k =
    same_tail h.is_text.characters k.is_text.characters tail other h.is_text.scalar k.is_text.scalar h.unfinished k.unfinished
    (ap (λ (l : List ℕ). l ++ tail) (sym h.is_text.spelled) ∙ sym h.parts ∙ k.parts ∙ ap (λ (l : List ℕ). l ++ other) k.is_text.spelled)

begins_cut : (tail : List ℕ) → IsUnfinished tail → BeginsText tail
begins_cut tail (inl none) = record { more = []; is_text = subst (λ (l : List ℕ). IsText l) (sym (append-nil tail ∙ none)) no_text }
begins_cut tail (inr u) = record { more = u.1.next ∷ u.1.more; is_text = text_of_character u.0 (tail ++ u.1.next ∷ u.1.more) (record { scalar = u.1.scalar; spelled = u.1.missing }) }

pub begins_of_unfinished : (bytes tail : List ℕ) → HasUnfinished bytes tail → BeginsText bytes
begins_of_unfinished bytes tail h =
    let b = begins_cut tail h.unfinished in
    record { more = b.more; is_text = subst (λ (l : List ℕ). IsText l) (sym (append_assoc h.front tail b.more) ∙ ap (λ (l : List ℕ). l ++ b.more) (sym h.parts)) (text_append h.front (tail ++ b.more) h.is_text b.is_text) }

pub unfinished_length : (bytes tail : List ℕ) → HasUnfinished bytes tail → length tail ≤ 3
unfinished_length bytes tail h = short tail h.unfinished
  where
    short : (tail : List ℕ) → IsUnfinished tail → length tail ≤ 3
    short tail (inl none) = let e = ap length none in omega arith
    short tail (inr u) =
        let whole = ap length u.1.missing in
        let most = character_length u.0 u.1.scalar in
        omega (arith, length-append tail (u.1.next ∷ u.1.more))

-- ---- what follows depends on the unfinished character alone

-- the bytes and more are the front, and then the unfinished character and more
regrouped : (bytes tail more : List ℕ) (h : HasUnfinished bytes tail) → bytes ++ more ≡ h.front ++ (tail ++ more)
regrouped bytes tail more h = ap (λ (l : List ℕ). l ++ more) h.parts ∙ append_assoc h.front tail more

pub text_by_unfinished : (bytes tail more : List ℕ) → HasUnfinished bytes tail → IsText (bytes ++ more) ↔ IsText (tail ++ more)
text_by_unfinished bytes tail more h = (
  λ t. text_rest h.front (tail ++ more) h.is_text (subst (λ (l : List ℕ). IsText l) (regrouped bytes tail more h) t),
  λ t. subst (λ (l : List ℕ). IsText l) (sym (regrouped bytes tail more h)) (text_append h.front (tail ++ more) h.is_text t),
)

pub begins_by_unfinished : (bytes tail more : List ℕ) → HasUnfinished bytes tail → BeginsText (bytes ++ more) ↔ BeginsText (tail ++ more)
begins_by_unfinished bytes tail more h = (
  λ b. record { more = b.more; is_text = subst (λ (l : List ℕ). IsText l) (sym (append_assoc tail more b.more)) ((text_by_unfinished bytes tail (more ++ b.more) h).0 (subst (λ (l : List ℕ). IsText l) (append_assoc bytes more b.more) b.is_text)) },
  λ b. record { more = b.more; is_text = subst (λ (l : List ℕ). IsText l) (sym (append_assoc bytes more b.more)) ((text_by_unfinished bytes tail (more ++ b.more) h).1 (subst (λ (l : List ℕ). IsText l) (append_assoc tail more b.more) b.is_text)) },
)

unfinished_onward : (bytes tail more next : List ℕ) → HasUnfinished bytes tail → HasUnfinished (tail ++ more) next → HasUnfinished (bytes ++ more) next
unfinished_onward bytes tail more next h k = subst (λ (l : List ℕ). HasUnfinished l next) (sym (regrouped bytes tail more h)) (unfinished_after h.front (tail ++ more) next h.is_text k)

pub unfinished_by_unfinished : (bytes tail more next : List ℕ) → HasUnfinished bytes tail → HasUnfinished (bytes ++ more) next ↔ HasUnfinished (tail ++ more) next
unfinished_by_unfinished bytes tail more next h = (
  λ k. let found = some_unfinished (tail ++ more) ((begins_by_unfinished bytes tail more h).0 (begins_of_unfinished (bytes ++ more) next k)) in
      subst (λ (l : List ℕ). HasUnfinished (tail ++ more) l) (same_unfinished (bytes ++ more) found.0 next (unfinished_onward bytes tail more found.0 h found.1) k) found.1,
  unfinished_onward bytes tail more next h,
)

pub text_without_unfinished : (bytes tail : List ℕ) → HasUnfinished bytes tail → IsText bytes ↔ (tail ≡ [])
text_without_unfinished bytes tail h = (
  λ t. same_unfinished bytes tail [] h (unfinished_of_text bytes t),
  λ e. subst (λ (l : List ℕ). IsText l) (sym (h.parts ∙ ap (λ (l : List ℕ). h.front ++ l) e ∙ append-nil h.front)) h.is_text,
)
