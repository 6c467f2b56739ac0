-- A header read field by field: where each part ends, and that no other header begins the same bytes.
use Rattle.std.proofs.Common.{◌≡◌, ℕ, ◌+◌, ◌-◌, ◌*◌, ◌/◌, ◌%◌, ◌<◌, ◌≤◌, ◌⊎◌, Bool, true, false, List, [], ◌∷◌, ◌++◌, length, get_or, take, drop, Option, Some, None, refl, sym, ap, ◌∙◌, append_assoc, arith, inl, inr, lit<, subst}
use Rattle.std.specs.Prelude.{slice_index, nat_le}
use Rattle.std.proofs.lemmas.Bool.{cases_lt, cases_eq, le-leb, lt-leb}
use Rattle.std.proofs.lemmas.List.{take-append-drop, length-append, length-take-le, length-drop, take_at, append_cancel_left, drop-drop, take_rest}
use Rattle.byteorder.specs.Endian.{big_number}
use Rattle.ws_wire.specs.declared.header.Form.{Form}
use Rattle.ws_wire.specs.declared.header.Form.TheVariants.{Short, Two, Eight}
use Rattle.ws_wire.specs.Header.{HeaderFields, IsHeader, IsHeaderOf, AreBytes, CanHold, IsMaskingKey, length_bits, length_bytes, key_bytes, is_masked, top_bit, header_bytes, first_byte, second_byte}
use Rattle.ws_wire.specs.InnerParts.{LengthEnds, LengthIsCut, KeyEnds, KeyIsCut}
use Rattle.ws_wire.specs.Reading.{Begins, BeginsNoHeader}
use Rattle.ws_wire.proofs.Numbers.{front_bytes, AreBytes-drop}
use Rattle.ws_wire.proofs.HeaderLengths.{two_ends, eight_ends, two_cut, eight_cut, same_length, key_cut}

-- ---- the whole

-- a bit below 128 and the bit of 128 are each read back
pub second_is : (b : Bool) (n m : ℕ) → n < 128 → m ≡ top_bit b + n → (m % 128 ≡ n) × (b ≡ nat_le 128 m)
second_is true n m lt e = (omega arith, sym (le-leb 128 m (omega arith)))
second_is false n m lt e = (omega arith, sym (lt-leb 128 m (omega arith)))

bits_below : (f : Form) (n : ℕ) → CanHold f n → length_bits f n < 128
bits_below Short n h = omega arith
bits_below Two n h = lit< tt
bits_below Eight n h = lit< tt

pub two_read : (bytes : List ℕ) (n : ℕ) → AreBytes bytes → 4 ≤ length bytes → slice_index bytes 1 % 128 ≡ 126 → n ≡ big_number 2 (take (length bytes - 2) (drop 2 bytes)) → LengthEnds bytes Two n 4
two_read bytes n h l bits e =
    let same : n ≡ big_number 2 (drop 2 bytes) = e ∙ ap (λ (t : List ℕ). big_number 2 t) (take_rest bytes 2) in
    subst (λ (k : ℕ). LengthEnds bytes Two k 4) (sym same) (two_ends bytes h l bits)

pub eight_read : (bytes : List ℕ) (n : ℕ) → AreBytes bytes → 10 ≤ length bytes → slice_index bytes 1 % 128 ≡ 127 → n ≡ big_number 8 (take (length bytes - 2) (drop 2 bytes)) → LengthEnds bytes Eight n 10
eight_read bytes n h l bits e =
    let same : n ≡ big_number 8 (drop 2 bytes) = e ∙ ap (λ (t : List ℕ). big_number 8 t) (take_rest bytes 2) in
    subst (λ (k : ℕ). LengthEnds bytes Eight k 10) (sym same) (eight_ends bytes h l bits)

-- the fields that are read
abbrev pub fields_read : List ℕ → Form → ℕ → Option (List ℕ) → HeaderFields
fields_read bytes form len key = record { fin = nat_le 128 (slice_index bytes 0); rsv = slice_index bytes 0 / 16 % 8; opcode = slice_index bytes 0 % 16; key = key; len = len; form = form }

first_again : (b : ℕ) → b < 256 → b ≡ top_bit (nat_le 128 b) + (16 * (b / 16 % 8) + b % 16)
first_again b lt =
    elim (cases_lt b 128) [
      | inl low ↦ rw (lt-leb 128 b low) (omega arith)
      | inr high ↦ rw (le-leb 128 b high) (omega arith)
    ]

second_again : (b n : ℕ) (t : Bool) → b < 256 → b % 128 ≡ n → t ≡ nat_le 128 b → b ≡ top_bit t + n
second_again b n t lt e m =
    elim (cases_lt b 128) [
      | inl low ↦ rw (m, lt-leb 128 b low) (omega arith)
      | inr high ↦ rw (m, le-leb 128 b high) (omega arith)
    ]

two_more : (bytes : List ℕ) → 2 ≤ length bytes → bytes ≡ slice_index bytes 0 ∷ slice_index bytes 1 ∷ drop 2 bytes
two_more [] l = absurd (omega arith)
two_more (a ∷ []) l = absurd (omega arith)
two_more (a ∷ b ∷ bytes) l = refl

pub header_begins : (bytes : List ℕ) (form : Form) (len at : ℕ) (key : Option (List ℕ)) (used : ℕ) → AreBytes bytes → 2 ≤ length bytes → LengthEnds bytes form len at → KeyEnds bytes at key used → Begins (fields_read bytes form len key) used bytes
header_begins bytes form len at key used h two a k =
    let head = fields_read bytes form len key in
    let first : slice_index bytes 0 ≡ first_byte head = first_again (slice_index bytes 0) (h 0) in
    let second : slice_index bytes 1 ≡ second_byte head = second_again (slice_index bytes 1) (length_bits form len) (is_masked key) (h 1) a.bits k.bit in
    let parts : drop 2 bytes ≡ (length_bytes form len ++ key_bytes key) ++ drop used bytes = a.layout ∙ ap (λ (t : List ℕ). length_bytes form len ++ t) k.layout ∙ sym (append_assoc (length_bytes form len) (key_bytes key) (drop used bytes)) in
    let all : bytes ≡ header_bytes head ++ drop used bytes = two_more bytes two ∙ (cc) in
    let len-is : length (header_bytes head) ≡ used = omega (arith, ap length all, length-append (header_bytes head) (drop used bytes), length-drop used bytes, k.within) in
    record {
      within = k.within;
      front = record {
        fields = record { rsv = omega arith; opcode = omega arith; len = a.can_hold; key = k.is_key };
        layout = ap (λ (t : List ℕ). take used t) all ∙ take_at (header_bytes head) (drop used bytes) used len-is;
      };
    }

-- a header's bytes say where its length and its key end
pub header_ends : (bytes : List ℕ) (h : HeaderFields) (front rest : List ℕ) → IsHeaderOf h front → bytes ≡ front ++ rest
    → (slice_index bytes 1 % 128 ≡ length_bits h.form h.len) × (is_masked h.key ≡ nat_le 128 (slice_index bytes 1)) × (drop 2 bytes ≡ length_bytes h.form h.len ++ (key_bytes h.key ++ rest)) × (2 ≤ length bytes)
header_ends bytes h front rest given e =
    let all : bytes ≡ header_bytes h ++ rest = e ∙ ap (λ (t : List ℕ). t ++ rest) given.layout in
    let byte : slice_index bytes 1 ≡ second_byte h = ap (λ (t : List ℕ). slice_index t 1) all in
    let s = second_is (is_masked h.key) (length_bits h.form h.len) (slice_index bytes 1) (bits_below h.form h.len given.fields.len) byte in
    (s.0, s.1, ap (λ (t : List ℕ). drop 2 t) all ∙ append_assoc (length_bytes h.form h.len) (key_bytes h.key) rest, omega (arith, ap length all))

-- ---- no header begins another

-- two parts of one list that have one length
pub same_parts : (a b x y : List ℕ) → length a ≡ length b → a ++ x ≡ b ++ y → (a ≡ b) × (x ≡ y)
same_parts a b x y l e =
    let front : a ≡ b = sym (take_at a x (length a) refl) ∙ ap (λ (t : List ℕ). take (length a) t) e ∙ take_at b y (length a) (sym l) in
    (front, append_cancel_left a x y (e ∙ ap (λ (t : List ℕ). t ++ y) (sym front)))

pub same_key : (k j : Option (List ℕ)) (x y : List ℕ) → IsMaskingKey k → IsMaskingKey j → is_masked k ≡ is_masked j → key_bytes k ++ x ≡ key_bytes j ++ y → (k ≡ j) × (x ≡ y)
same_key None None x y ik ij h e = (refl, e)
same_key None (Some j) x y ik ij h e = absurd cc
same_key (Some k) None x y ik ij h e = absurd cc
same_key (Some k) (Some j) x y ik ij h e = let s = same_parts k j x y (ik.0 ∙ sym ij.0) e in (ap (λ (t : List ℕ). Some t) s.0, s.1)

pub record SameFirst (f g : Bool) (r s o p : ℕ) : Type 0 where
  pub fin : f ≡ g
  pub rsv : r ≡ s
  pub opcode : o ≡ p

same_first : (f g : Bool) (r s o p : ℕ) → r < 8 → s < 8 → o < 16 → p < 16 → top_bit f + (16 * r + o) ≡ top_bit g + (16 * s + p) → SameFirst f g r s o p
same_first true true r s o p lr ls lo lp e = record { fin = refl; rsv = omega arith; opcode = omega arith }
same_first true false r s o p lr ls lo lp e = absurd (omega arith)
same_first false true r s o p lr ls lo lp e = absurd (omega arith)
same_first false false r s o p lr ls lo lp e = record { fin = refl; rsv = omega arith; opcode = omega arith }

make_fields : Bool → ℕ → ℕ → Option (List ℕ) → ℕ → Form → HeaderFields
make_fields fin rsv opcode key len form = record { fin = fin; rsv = rsv; opcode = opcode; key = key; len = len; form = form }

-- headers with the same fields are one
pub same_fields : (h g : HeaderFields) → h.fin ≡ g.fin → h.rsv ≡ g.rsv → h.opcode ≡ g.opcode → h.key ≡ g.key → h.len ≡ g.len → h.form ≡ g.form → h ≡ g
unfolding make_fields
same_fields h g a b c d e f =
    let same : make_fields h.fin h.rsv h.opcode h.key h.len h.form ≡ make_fields g.fin g.rsv g.opcode g.key g.len g.form = cc in
    same

pub same_header : (h g : HeaderFields) (x y : List ℕ) → IsHeader h → IsHeader g → header_bytes h ++ x ≡ header_bytes g ++ y → (h ≡ g) × (x ≡ y)
same_header h g x y ih ig e =
    let first : first_byte h ≡ first_byte g = ap (λ (t : List ℕ). get_or t 0 0) e in
    let second : second_byte h ≡ second_byte g = ap (λ (t : List ℕ). get_or t 1 0) e in
    let rest : length_bytes h.form h.len ++ (key_bytes h.key ++ x) ≡ length_bytes g.form g.len ++ (key_bytes g.key ++ y) =
    sym (append_assoc (length_bytes h.form h.len) (key_bytes h.key) x) ∙ ap (λ (t : List ℕ). drop 2 t) e ∙ append_assoc (length_bytes g.form g.len) (key_bytes g.key) y in
    let f = same_first h.fin g.fin h.rsv g.rsv h.opcode g.opcode ih.rsv ig.rsv ih.opcode ig.opcode first in
    let hs = second_is (is_masked h.key) (length_bits h.form h.len) (second_byte h) (bits_below h.form h.len ih.len) refl in
    let gs = second_is (is_masked g.key) (length_bits g.form g.len) (second_byte g) (bits_below g.form g.len ig.len) refl in
    let bits : length_bits h.form h.len ≡ length_bits g.form g.len = sym hs.0 ∙ ap (λ n. n % 128) second ∙ gs.0 in
    let keyed : is_masked h.key ≡ is_masked g.key = hs.1 ∙ ap (λ n. nat_le 128 n) second ∙ sym gs.1 in
    let l = same_length h.form g.form h.len g.len (key_bytes h.key ++ x) (key_bytes g.key ++ y) ih.len ig.len bits rest in
    let k = same_key h.key g.key x y ih.key ig.key keyed l.rest in
    (same_fields h g f.fin f.rsv f.opcode k.0 l.len l.form, k.1)

pub no_header_begins : (h g : HeaderFields) (a b x y : List ℕ) → IsHeaderOf h a → IsHeaderOf g b → a ++ x ≡ b ++ y → (h ≡ g) × (a ≡ b) × (x ≡ y)
no_header_begins h g a b x y is_h is_g e =
    let s = same_header h g x y is_h.fields is_g.fields (ap (λ (t : List ℕ). t ++ x) (sym is_h.layout) ∙ e ∙ ap (λ (t : List ℕ). t ++ y) is_g.layout) in
    (s.0, is_h.layout ∙ ap (λ (t : HeaderFields). header_bytes t) s.0 ∙ sym is_g.layout, s.1)

-- ---- a header, or none

record SomeLength (bytes : List ℕ) : Type 0 where
  pub form : Form
  pub len : ℕ
  pub at : ℕ
  pub ends : LengthEnds bytes form len at

short_ends : (bytes : List ℕ) → 2 ≤ length bytes → slice_index bytes 1 % 128 < 126 → LengthEnds bytes Short (slice_index bytes 1 % 128) 2
short_ends bytes l h = record { can_hold = h; bits = refl; within = l; layout = refl }

length_or_none : (bytes : List ℕ) → AreBytes bytes → 2 ≤ length bytes → SomeLength bytes ⊎ LengthIsCut bytes
length_or_none bytes h l =
    elim (cases_lt (slice_index bytes 1 % 128) 126) [
      | inl small ↦ inl (record { form = Short; len = slice_index bytes 1 % 128; at = 2; ends = short_ends bytes l small })
      | inr big ↦ elim (cases_eq (slice_index bytes 1 % 128) 126) [
        | inl two ↦ elim (cases_lt (length bytes) 4) [ inl short ↦ inr (two_cut bytes l two short) | inr long ↦ inl (record { form = Two; len = big_number 2 (drop 2 bytes); at = 4; ends = two_ends bytes h long two }) ]
        | inr other ↦ let eight : slice_index bytes 1 % 128 ≡ 127 = omega arith in
            elim (cases_lt (length bytes) 10) [ inl short ↦ inr (eight_cut bytes l eight short) | inr long ↦ inl (record { form = Eight; len = big_number 8 (drop 2 bytes); at = 10; ends = eight_ends bytes h long eight }) ]
      ]
    ]

record SomeKey (bytes : List ℕ) (from : ℕ) : Type 0 where
  pub key : Option (List ℕ)
  pub at : ℕ
  pub ends : KeyEnds bytes from key at

key_or_none : (bytes : List ℕ) (from : ℕ) → AreBytes bytes → from ≤ length bytes → SomeKey bytes from ⊎ KeyIsCut bytes from
key_or_none bytes from h within =
    elim (cases_lt (slice_index bytes 1) 128) [
      | inl none ↦ inl (record { key = None; at = from; ends = record { is_key = tt; bit = sym (lt-leb 128 (slice_index bytes 1) none); within = within; layout = refl } })
      | inr some ↦ elim (cases_lt (length bytes - from) 4) [
        | inl short ↦ inr (key_cut bytes from within some short)
        | inr long ↦
            let len : length (take 4 (drop from bytes)) ≡ 4 = length-take-le 4 (drop from bytes) (omega (arith, length-drop from bytes)) in
            inl (record {
              key = Some (take 4 (drop from bytes));
              at = from + 4;
              ends = record {
                is_key = (len, front_bytes 4 (drop from bytes) (AreBytes-drop from bytes h));
                bit = sym (le-leb 128 (slice_index bytes 1) some);
                within = omega arith;
                layout = sym (take-append-drop 4 (drop from bytes)) ∙ ap (λ (t : List ℕ). take 4 (drop from bytes) ++ t) (drop-drop 4 from bytes);
              };
            })
      ]
    ]

-- some header stands at the front
pub record SomeHeader (bytes : List ℕ) : Type 0 where
  pub fields : HeaderFields
  pub used : ℕ
  pub begins : Begins fields used bytes

pub no_length_no_header : (bytes : List ℕ) → LengthIsCut bytes → BeginsNoHeader bytes
no_length_no_header bytes cut h front rest given e = let p = header_ends bytes h front rest given e in cut h.form h.len (key_bytes h.key ++ rest) given.fields.len p.0 p.2

pub no_key_no_header : (bytes : List ℕ) (form : Form) (len at : ℕ) → LengthEnds bytes form len at → KeyIsCut bytes at → BeginsNoHeader bytes
no_key_no_header bytes form len at l cut h front rest given e =
    let p = header_ends bytes h front rest given e in
    let s = same_length form h.form len h.len (drop at bytes) (key_bytes h.key ++ rest) l.can_hold given.fields.len (sym l.bits ∙ p.0) (sym l.layout ∙ p.2) in
    cut h.key rest given.fields.key p.1 s.rest

pub too_short_for_header : (bytes : List ℕ) → length bytes < 2 → BeginsNoHeader bytes
too_short_for_header bytes short h front rest given e = absurd (omega (arith, (header_ends bytes h front rest given e).3))

pub header_or_none : (bytes : List ℕ) → AreBytes bytes → SomeHeader bytes ⊎ BeginsNoHeader bytes
header_or_none bytes h =
    elim (cases_lt (length bytes) 2) [
      | inl short ↦ inr (too_short_for_header bytes short)
      | inr two ↦ elim (length_or_none bytes h two) [
        | inr cut ↦ inr (no_length_no_header bytes cut)
        | inl l ↦ elim (key_or_none bytes l.at h l.ends.within) [
          | inr cut ↦ inr (no_key_no_header bytes l.form l.len l.at l.ends cut)
          | inl k ↦ inl (record { fields = fields_read bytes l.form l.len k.key; used = k.at; begins = header_begins bytes l.form l.len l.at k.key k.at h two l.ends k.ends })
        ]
      ]
    ]

-- the bytes are the header's and then those behind it
pub header_parts : (h : HeaderFields) (used : ℕ) (bytes : List ℕ) → Begins h used bytes → bytes ≡ header_bytes h ++ drop used bytes
header_parts h used bytes b = sym (take-append-drop used bytes) ∙ ap (λ (t : List ℕ). t ++ drop used bytes) b.front.layout
