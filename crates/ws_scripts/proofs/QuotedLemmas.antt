-- The characters of a text between quotes stand for one list of characters, which is read one after another.
use Rattle.std.proofs.Common.{◌≡◌, ◌∙◌, ℕ, zero, suc, inl, true, List, [], ◌∷◌, ◌++◌, Option, Some, None}
use Rattle.std.proofs.Common.{refl, ap, ap₂, sym, subst}
use Rattle.std.proofs.Common.{◌<◌, IsAscii, IsUtf8, Result, Ok, Err, arith, chars, append_assoc, append-nil}
use Rattle.std.proofs.Common.{encode_utf8, encode_utf8_all, length}
use Rattle.std.specs.Prelude.{IfErr, IfOk}
use Rattle.std.specs.List.{AllZip, concat, list_all}
use Rattle.std.proofs.lemmas.Bool.{and_parts}
use Rattle.std.proofs.lemmas.Bool.Decides.{nat_tests}
use Rattle.std.proofs.lemmas.Option.{none-some, same_Some}
use Rattle.std.proofs.lemmas.Str.{IsUtf8-from_ascii, chars-IsAscii, chars-nil, encodes-append, encodes-chars}
use Rattle.std.proofs.lemmas.Str.{encodes-IsAscii}
use Rattle.ws_base.specs.declared.text_fault.LineFault.{LineFault}
use Rattle.ws_base.specs.declared.text_fault.LineFault.TheVariants.{Damaged, NoMemory}
use Rattle.ws_formats.specs.Reading.{Reads}
use Rattle.ws_scripts.specs.QuotedTexts.{IsQuotedText, StandForAll, StandsFor, is_unescaped}
use Rattle.ws_scripts.specs.InnerQuoting.{Unescapes, front_character, is_plain_byte}
use Rattle.ws_scripts.proofs.QuotedFronts.{WordInFront, front_ahead, front_from}

pub stand_none : StandForAll [] []
stand_none = record { words = []; each = tt; all = refl }

pub stand_cons : (c : ℕ) (word characters text : List ℕ) → StandsFor c word → StandForAll characters text
    → StandForAll (c ∷ characters) (word ++ text)
stand_cons c word characters text is h = record {
  words = word ∷ h.words;
  each = (is, h.each);
  all = ap (λ (l : List ℕ). word ++ l) h.all;
}

-- nothing stands for a front that isn't taken
stand_stop : (characters text : List ℕ) → StandForAll characters text → front_character text ≡ None → text ≡ []
stand_stop characters text h none = by_words characters h.words h.each h.all
  where
    by_words : (cs : List ℕ) (words : List (List ℕ)) → AllZip StandsFor cs words → text ≡ concat words → text ≡ []
    by_words [] [] each all = all
    by_words [] (w ∷ words) each all = absurd each
    by_words (c ∷ cs) [] each all = absurd each
    by_words (c ∷ cs) (w ∷ words) each all =
        absurd (none-some _ (sym (ap front_character (sym all) ∙ none) ∙ front_ahead c w (concat words) each.0))

-- the character that is taken off the front is the first
pub stand_front : (characters text : List ℕ) (c : ℕ) (rest : List ℕ) → StandForAll characters text
    → front_character text ≡ Some (c, rest) → (more : List ℕ) × (characters ≡ c ∷ more) × StandForAll more rest
stand_front characters text c rest h front = by_words characters h.words h.each h.all
  where
    by_words : (cs : List ℕ) (words : List (List ℕ)) → AllZip StandsFor cs words → text ≡ concat words
        → (more : List ℕ) × (cs ≡ c ∷ more) × StandForAll more rest
    by_words [] [] each all = absurd (none-some _ (sym (ap front_character all) ∙ front))
    by_words [] (w ∷ words) each all = absurd each
    by_words (d ∷ cs) [] each all = absurd each
    by_words (d ∷ cs) (w ∷ words) each all =
        let same = same_Some (c, rest) (d, concat words)
        (sym front ∙ (ap front_character all ∙ front_ahead d w (concat words) each.0)) in (
          cs,
          ap (λ (n : ℕ). n ∷ cs) (sym (ap (λ (p : ℕ × List ℕ). p.0) same)),
          record { words = words; each = each.1; all = ap (λ (p : ℕ × List ℕ). p.1) same },
        )

-- and what stands for the rest stands behind it
pub stand_more : (text : List ℕ) (c : ℕ) (rest more : List ℕ) → front_character text ≡ Some (c, rest)
    → StandForAll more rest → StandForAll (c ∷ more) text
stand_more text c rest more front h =
    let x = front_from text c rest front in
    subst (λ (l : List ℕ). StandForAll (c ∷ more) l) (sym x.2) (stand_cons c x.0 more rest x.1 h)

-- ---- one list of characters

no_words : (cs : List ℕ) (words : List (List ℕ)) → AllZip StandsFor cs words → [] ≡ concat words → cs ≡ []
no_words [] words each all = refl
no_words (c ∷ cs) [] each all = absurd each
no_words (c ∷ cs) (w ∷ words) each all =
    absurd (none-some _ (ap front_character all ∙ front_ahead c w (concat words) each.0))

pub stand_one : (one other text : List ℕ) → StandForAll one text → StandForAll other text → one ≡ other
stand_one one other text h k = by_words one h.words h.each other text h.all k
  where
    by_words : (cs : List ℕ) (words : List (List ℕ)) → AllZip StandsFor cs words → (ds part : List ℕ)
        → part ≡ concat words → StandForAll ds part → cs ≡ ds
    by_words [] [] each ds part all i = sym (no_words ds i.words i.each (sym all ∙ i.all))
    by_words [] (w ∷ words) each ds part all i = absurd each
    by_words (c ∷ cs) [] each ds part all i = absurd each
    by_words (c ∷ cs) (w ∷ words) each ds part all i =
        let x = stand_front ds part c (concat words) i
        (ap front_character all ∙ front_ahead c w (concat words) each.0) in
        ap (λ (l : List ℕ). c ∷ l) (by_words cs words each.1 x.0 (concat words) refl x.2) ∙ sym x.1

pub text_one : (a b inner : List ℕ) → IsQuotedText a inner → IsQuotedText b inner → a ≡ b
text_one a b inner h i =
    h.encoded ∙ (ap encode_utf8_all (stand_one h.characters i.characters (chars inner) h.stand i.stand) ∙ sym i.encoded)

-- ---- plain text

plain_is : (byte : ℕ) → is_plain_byte byte ≡ true → is_unescaped byte ≡ true
plain_is byte h = grind (arith, nat_tests)

plain_low : (byte : ℕ) → is_plain_byte byte ≡ true → byte < 128
plain_low byte h = grind (arith, nat_tests)

plain_stand : (text : List ℕ) → list_all is_plain_byte text ≡ true → StandForAll text text
plain_stand [] h = stand_none
plain_stand (byte ∷ text) h =
    let both = and_parts (is_plain_byte byte) (list_all is_plain_byte text) h in
    stand_cons byte (byte ∷ []) text text (inl (plain_is byte both.0, refl)) (plain_stand text both.1)

-- a text of plain characters stands for itself
pub plain_text : (text : List ℕ) → list_all is_plain_byte text ≡ true → IsQuotedText text text
plain_text text h =
    let ascii : IsAscii text = plain_ascii text h in
    record {
      utf8 = IsUtf8-from_ascii text ascii;
      characters = text;
      stand = subst (λ (l : List ℕ). StandForAll text l) (sym (chars-IsAscii text ascii)) (plain_stand text h);
      encoded = sym (encodes-IsAscii text ascii);
    }
  where
    plain_ascii : (l : List ℕ) → list_all is_plain_byte l ≡ true → IsAscii l
    plain_ascii [] p i = omega arith
    plain_ascii (byte ∷ l) p zero = plain_low byte (and_parts (is_plain_byte byte) (list_all is_plain_byte l) p).0
    plain_ascii (byte ∷ l) p (suc i) =
        plain_ascii l (and_parts (is_plain_byte byte) (list_all is_plain_byte l) p).1 i

-- ---- reading on

-- these characters were read, and this is left: what stands for the whole is them and what stands for the rest
pub record HasReadText (done text rest : List ℕ) : Type 0 where
  pub ahead : (later : List ℕ) → StandForAll later rest → StandForAll (done ++ later) text
  pub back : (all : List ℕ) → StandForAll all text → (later : List ℕ) × (all ≡ done ++ later) × StandForAll later rest

pub read_none : (text : List ℕ) → HasReadText [] text text
read_none text = record { ahead = λ later h. h; back = λ all h. (all, refl, h) }

pub read_more : (done text rest : List ℕ) (c : ℕ) (more : List ℕ) → HasReadText done text rest
    → front_character rest ≡ Some (c, more) → HasReadText (done ++ c ∷ []) text more
read_more done text rest c more h front = record {
  ahead = λ later k. subst (λ (l : List ℕ). StandForAll l text) (sym (append_assoc done (c ∷ []) later))
      (h.ahead (c ∷ later) (stand_more rest c more later front k));
  back = λ all k.
      let x = h.back all k in
      let y = stand_front x.0 rest c more x.2 front in
      (y.0, x.1 ∙ (ap (λ (l : List ℕ). done ++ l) y.1 ∙ sym (append_assoc done (c ∷ []) y.0)), y.2);
}

-- once nothing is left they are all
pub read_all : (done text rest : List ℕ) → HasReadText done text (chars rest) → length rest ≡ 0 → StandForAll done text
read_all done text [] h none =
    subst (λ (l : List ℕ). StandForAll l text) (append-nil done)
    (h.ahead [] (subst (λ (l : List ℕ). StandForAll [] l) (sym chars-nil) stand_none))
read_all done text (byte ∷ rest) h none = absurd (omega (arith, none))

-- no text has characters behind them that are no word's
pub read_stop : (done text rest all : List ℕ) → HasReadText done text (chars rest) → IsUtf8 rest
    → front_character (chars rest) ≡ None → (length rest ≡ 0 → ⊥) → StandForAll all text → ⊥
read_stop done text rest all h utf8 none some k =
    let x = h.back all k in
    let empty : chars rest ≡ [] = stand_stop x.0 (chars rest) x.2 none in
    some (ap (λ (l : List ℕ). length l) (sym (encodes-chars rest utf8) ∙ ap encode_utf8_all empty))

pub encoded_more : (done : List ℕ) (c : ℕ) (old new : List ℕ) → old ≡ encode_utf8_all done → new ≡ old ++ encode_utf8 c
    → new ≡ encode_utf8_all (done ++ c ∷ [])
encoded_more done c old new e f =
    f ∙ (ap₂ (λ (a b : List ℕ). a ++ b) e (sym (append-nil (encode_utf8 c))) ∙ sym (encodes-append done (c ∷ [])))

-- ---- what is answered

-- plain bytes are copied, or memory ran out
pub copied : (r : Result (List ℕ) LineFault) (text : List ℕ) → list_all is_plain_byte text ≡ true
    → IfOk r (λ bytes. bytes ≡ text) → IfErr r (λ fault. fault ≡ NoMemory) → Reads r (λ bytes. IsQuotedText bytes text)
copied (Ok bytes) text plain same memory =
    subst (λ (l : List ℕ). IsQuotedText l text) (sym same) (plain_text text plain)
copied (Err fault) text plain same memory = λ e bytes is. absurd (not_damaged fault memory e)
  where
    not_damaged : (fault : LineFault) → fault ≡ NoMemory → fault ≡ Damaged → ⊥
    not_damaged fault e f = let wrong : NoMemory ≡ Damaged = sym e ∙ f in absurd cc

-- what was read of the characters of UTF-8
pub unescaped : (r : Result (List ℕ) LineFault) (text inner : List ℕ) → text ≡ inner → IsUtf8 inner
    → Reads r (λ bytes. Unescapes bytes (chars text)) → Reads r (λ bytes. IsQuotedText bytes inner)
unescaped (Ok bytes) text inner same utf8 (characters, stand, encoded) = record {
  utf8 = utf8;
  characters = characters;
  stand = subst (λ (l : List ℕ). StandForAll characters (chars l)) same stand;
  encoded = encoded;
}
unescaped (Err fault) text inner same utf8 h = λ e bytes is. h e bytes (
  is.characters,
  subst (λ (l : List ℕ). StandForAll is.characters (chars l)) (sym same) is.stand,
  is.encoded,
)
