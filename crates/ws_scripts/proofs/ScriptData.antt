-- A word tells one list of bytes, in one of four notations.
use Rattle.std.proofs.Common.{◌≡◌, ◌≢◌, ◌∙◌, ℕ, ◌<◌, ◌≤◌, ◌/◌, ◌%◌, inl, inr, false, List, [], ◌∷◌, ◌++◌, Result}
use Rattle.std.proofs.Common.{Ok, Err, ap, ap₂, sym, subst, arith, codes, slice_index, take, drop, replicate}
use Rattle.std.proofs.lemmas.Bool.Decides.{nat_tests}
use Rattle.std.proofs.lemmas.Fmt.{decimal_injective}
use Rattle.std.proofs.lemmas.List.{append_cancel_right, take-append-drop}
use Rattle.std.specs.Fmt.{decimal, digit_glyph}
use Rattle.ws_base.specs.declared.text_fault.LineFault.{LineFault}
use Rattle.ws_formats.specs.Reading.{Reads}
use Rattle.ws_formats.specs.Words.{IsHexWord, IsNumberWord, hex}
use Rattle.ws_formats.proofs.HexWords.{are_bytes_cons, glyph_above, hex_cons, hex_one, high_of, low_of, same_byte}
use Rattle.ws_scripts.specs.QuotedTexts.{IsQuotedText}
use Rattle.ws_scripts.specs.ScriptLines.{IsDataWord, IsQuoted, IsRepeated}
use Rattle.ws_scripts.proofs.QuotedLemmas.{text_one}

abbrev at : ℕ → List ℕ → ℕ
at i word = slice_index word i

-- ---- one byte so many times

pub repeated_word : (bytes word : List ℕ) → (h : IsRepeated bytes word)
    → word ≡ high_of h.byte ∷ low_of h.byte ∷ 42 ∷ decimal h.times
repeated_word bytes word h = h.spelled
    ∙ ap (λ (l : List ℕ). l ++ (codes "*" ++ decimal h.times)) (hex_cons h.byte [] h.is_byte)

no_bytes : (i : ℕ) → slice_index [] i < 256
no_bytes i = omega arith

pub repeated_pair : (bytes word : List ℕ) → (h : IsRepeated bytes word) → IsHexWord (h.byte ∷ []) (take 2 word)
repeated_pair bytes word h = (
  are_bytes_cons h.byte [] h.is_byte no_bytes,
  ap (λ (l : List ℕ). take 2 l) (repeated_word bytes word h) ∙ sym (hex_cons h.byte [] h.is_byte),
)

pub repeated_rest : (bytes word : List ℕ) → (h : IsRepeated bytes word) → drop 2 word ≡ codes "*" ++ decimal h.times
repeated_rest bytes word h = ap (λ (l : List ℕ). drop 2 l) (repeated_word bytes word h)

-- what is read of its parts
pub repeated_read : (word pair rest digits one bytes : List ℕ) (byte times : ℕ) → pair ≡ take 2 word
    → rest ≡ drop 2 word → rest ≡ codes "*" ++ digits → IsNumberWord 16777216 times digits → (times ≡ 0 → ⊥)
    → IsHexWord one pair → one ≡ byte ∷ [] → bytes ≡ replicate times byte → IsRepeated bytes word
repeated_read word pair rest digits one bytes byte times e f g number some hexes same are =
    let own : IsHexWord (byte ∷ []) pair = subst (λ (l : List ℕ). IsHexWord l pair) same hexes in
    record {
      byte = byte;
      times = times;
      is_byte = own.0 0;
      some = omega arith;
      most = number.0;
      are = are;
      spelled = sym (take-append-drop 2 word)
          ∙ ap₂ (λ (a b : List ℕ). a ++ b) (sym e ∙ own.1)
          (sym f ∙ (g ∙ ap (λ (l : List ℕ). codes "*" ++ l) number.1));
    }

repeated_one : (a b word : List ℕ) → IsRepeated a word → IsRepeated b word → a ≡ b
repeated_one a b word h i =
    let same = sym (repeated_word a word h) ∙ repeated_word b word i in
    let byte : h.byte ≡ i.byte = same_byte h.byte i.byte h.is_byte i.is_byte (ap (at 0) same) (ap (at 1) same) in
    let number : h.times ≡ i.times = decimal_injective h.times i.times (omega (arith, h.most)) (omega (arith, i.most))
    (ap (λ (l : List ℕ). drop 3 l) same) in
    h.are ∙ (ap₂ (λ (n b : ℕ). replicate n b) number byte ∙ sym i.are)

same_inner : (one other word : List ℕ) → word ≡ 34 ∷ (one ++ 34 ∷ []) → word ≡ 34 ∷ (other ++ 34 ∷ []) → one ≡ other
same_inner one other word e f =
    append_cancel_right one other (34 ∷ []) (ap (λ (l : List ℕ). drop 1 l) (sym e ∙ f))

quoted_one : (a b word : List ℕ) → IsQuoted a word → IsQuoted b word → a ≡ b
quoted_one a b word h i =
    let same = same_inner h.inner i.inner word h.spelled i.spelled in
    text_one a b i.inner (subst (λ (l : List ℕ). IsQuotedText a l) same h.is_text) i.is_text

-- what is read between the quotes is read of the word
pub quoted_read : (r : Result (List ℕ) LineFault) (inner word : List ℕ) → word ≡ 34 ∷ (inner ++ 34 ∷ [])
    → Reads r (λ bytes. IsQuotedText bytes inner) → Reads r (λ bytes. IsQuoted bytes word)
quoted_read (Ok bytes) inner word e h = record { inner = inner; is_text = h; spelled = e }
quoted_read (Err fault) inner word e h = λ f bytes is.
    let same = same_inner is.inner inner word is.spelled e in
    h f bytes (subst (λ (l : List ℕ). IsQuotedText bytes l) same is.is_text)

-- ---- the first characters of a word

glyph_below : (d : ℕ) → d < 16 → digit_glyph false d ≤ 102
glyph_below d small = grind (arith, nat_tests)

hex_first : (bytes word : List ℕ) → IsHexWord bytes word → slice_index word 0 ≢ 34
hex_first [] word h e = let is : at 0 word ≡ 45 = ap (at 0) h.1 in omega (arith, is, e)
hex_first (b ∷ bytes) word h e =
    let above = glyph_above (b / 16) in
    let is : at 0 word ≡ high_of b = ap (at 0) (h.1 ∙ hex_cons b bytes (h.0 0)) in
    omega (arith, above, is, e)

hex_third : (bytes word : List ℕ) → IsHexWord bytes word → slice_index word 2 ≢ 42
hex_third [] word h e = let is : at 2 word ≡ 0 = ap (at 2) h.1 in omega (arith, is, e)
hex_third (b ∷ []) word h e =
    let is : at 2 word ≡ 0 = ap (at 2) (h.1 ∙ hex_cons b [] (h.0 0)) in omega (arith, is, e)
hex_third (b ∷ c ∷ bytes) word h e =
    let above = glyph_above (c / 16) in
    let is : at 2 word ≡ at 0 (hex (c ∷ bytes)) = ap (at 2) (h.1 ∙ hex_cons b (c ∷ bytes) (h.0 0)) in
    let too : at 0 (hex (c ∷ bytes)) ≡ high_of c = ap (at 0) (hex_cons c bytes (h.0 1)) in
    omega (arith, above, is, too, e)

repeated_first : (bytes word : List ℕ) → IsRepeated bytes word → slice_index word 0 ≢ 34
repeated_first bytes word h e =
    let above = glyph_above (h.byte / 16) in
    let is : at 0 word ≡ high_of h.byte = ap (at 0) (repeated_word bytes word h) in
    omega (arith, above, is, e)

repeated_third : (bytes word : List ℕ) → IsRepeated bytes word → slice_index word 2 ≡ 42
repeated_third bytes word h = ap (at 2) (repeated_word bytes word h)

quoted_first : (bytes word : List ℕ) → IsQuoted bytes word → slice_index word 0 ≡ 34
quoted_first bytes word h = ap (at 0) h.spelled

-- no word begins with two letters after `f`
abbrev IsLow : List ℕ → Type 0
IsLow word = (slice_index word 0 ≤ 102) × (slice_index word 0 ≡ 102 → slice_index word 1 ≤ 102)

pair_low : (byte : ℕ) (word rest : List ℕ) → byte < 256 → word ≡ high_of byte ∷ low_of byte ∷ rest → IsLow word
pair_low byte word rest small e =
    let high = glyph_below (byte / 16) (omega arith) in
    let low = glyph_below (byte % 16) (omega arith) in
    let first : at 0 word ≡ high_of byte = ap (at 0) e in
    let second : at 1 word ≡ low_of byte = ap (at 1) e in
    (omega (arith, high, first), λ f. omega (arith, low, second))

pub data_low : (bytes word : List ℕ) → IsDataWord bytes word → IsLow word
data_low [] word (inl h) =
    let first : at 0 word ≡ 45 = ap (at 0) h.1 in (omega (arith, first), λ f. absurd (omega (arith, first, f)))
data_low (b ∷ bytes) word (inl h) = pair_low b word (hex bytes) (h.0 0) (h.1 ∙ hex_cons b bytes (h.0 0))
data_low bytes word (inr (inl h)) = pair_low h.byte word (42 ∷ decimal h.times) h.is_byte (repeated_word bytes word h)
data_low bytes word (inr (inr h)) =
    let first = quoted_first bytes word h in (omega (arith, first), λ f. absurd (omega (arith, first, f)))

-- ---- one list of bytes

pub data_one : (a b word : List ℕ) → IsDataWord a word → IsDataWord b word → a ≡ b
data_one a b word (inl h) (inl i) = hex_one a b word h i
data_one a b word (inl h) (inr (inl i)) = absurd (hex_third a word h (repeated_third b word i))
data_one a b word (inl h) (inr (inr i)) = absurd (hex_first a word h (quoted_first b word i))
data_one a b word (inr (inl h)) (inl i) = absurd (hex_third b word i (repeated_third a word h))
data_one a b word (inr (inl h)) (inr (inl i)) = repeated_one a b word h i
data_one a b word (inr (inl h)) (inr (inr i)) = absurd (repeated_first a word h (quoted_first b word i))
data_one a b word (inr (inr h)) (inl i) = absurd (hex_first b word i (quoted_first a word h))
data_one a b word (inr (inr h)) (inr (inl i)) = absurd (repeated_first b word i (quoted_first a word h))
data_one a b word (inr (inr h)) (inr (inr i)) = quoted_one a b word h i

-- ---- which notation is read

pub quoted_is_data : (r : Result (List ℕ) LineFault) (word : List ℕ) → slice_index word 0 ≡ 34
    → Reads r (λ bytes. IsQuoted bytes word) → Reads r (λ bytes. IsDataWord bytes word)
quoted_is_data (Ok bytes) word first h = inr (inr h)
quoted_is_data (Err fault) word first h = λ e bytes is. none (h e) bytes is
  where
    none : ((bytes : List ℕ) → IsQuoted bytes word → ⊥) → (bytes : List ℕ) → IsDataWord bytes word → ⊥
    none wrong bytes (inl is) = hex_first bytes word is first
    none wrong bytes (inr (inl is)) = repeated_first bytes word is first
    none wrong bytes (inr (inr is)) = wrong bytes is

pub repeated_is_data : (r : Result (List ℕ) LineFault) (word : List ℕ) → slice_index word 0 ≢ 34
    → slice_index word 2 ≡ 42 → Reads r (λ bytes. IsRepeated bytes word) → Reads r (λ bytes. IsDataWord bytes word)
repeated_is_data (Ok bytes) word first third h = inr (inl h)
repeated_is_data (Err fault) word first third h = λ e bytes is. none (h e) bytes is
  where
    none : ((bytes : List ℕ) → IsRepeated bytes word → ⊥) → (bytes : List ℕ) → IsDataWord bytes word → ⊥
    none wrong bytes (inl is) = hex_third bytes word is third
    none wrong bytes (inr (inl is)) = wrong bytes is
    none wrong bytes (inr (inr is)) = first (quoted_first bytes word is)

pub hex_is_data : (r : Result (List ℕ) LineFault) (word : List ℕ) → slice_index word 0 ≢ 34
    → slice_index word 2 ≢ 42 → Reads r (λ bytes. IsHexWord bytes word) → Reads r (λ bytes. IsDataWord bytes word)
hex_is_data (Ok bytes) word first third h = inl h
hex_is_data (Err fault) word first third h = λ e bytes is. none (h e) bytes is
  where
    none : ((bytes : List ℕ) → IsHexWord bytes word → ⊥) → (bytes : List ℕ) → IsDataWord bytes word → ⊥
    none wrong bytes (inl is) = wrong bytes is
    none wrong bytes (inr (inl is)) = third (repeated_third bytes word is)
    none wrong bytes (inr (inr is)) = first (quoted_first bytes word is)
