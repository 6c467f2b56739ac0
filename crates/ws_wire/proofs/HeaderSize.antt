-- Fourteen bytes hold a header.
use Rattle.std.proofs.Common.{◌≡◌, ℕ, ◌+◌, ◌%◌, ◌≤◌, ◌<◌, List, ◌++◌, length, take, drop, Option, Some, None, refl, sym, ap, ◌∙◌, arith, inl, inr}
use Rattle.std.specs.Prelude.{slice_index}
use Rattle.std.proofs.lemmas.Bool.{cases_lt, cases_eq, lt-leb, le-leb}
use Rattle.std.proofs.lemmas.List.{length-drop, length-take-le, take-append-drop, drop-drop}
use Rattle.ws_wire.specs.declared.header.Form.{Form}
use Rattle.ws_wire.specs.declared.header.Form.TheVariants.{Short, Two, Eight}
use Rattle.ws_wire.specs.Header.{AreBytes}
use Rattle.ws_wire.specs.InnerParts.{LengthEnds, KeyEnds}
use Rattle.ws_wire.specs.Reading.{BeginsNoHeader}
use Rattle.ws_wire.proofs.Numbers.{AreBytes-drop, front_bytes}
use Rattle.ws_wire.proofs.HeaderLengths.{two_ends, eight_ends}
use Rattle.ws_wire.proofs.Headers.{header_begins}

record LengthWithin (bytes : List ℕ) : Type 0 where
  pub form : Form
  pub len : ℕ
  pub at : ℕ
  pub ends : LengthEnds bytes form len at
  pub early : at ≤ 10

length_within : (bytes : List ℕ) → AreBytes bytes → 14 ≤ length bytes → LengthWithin bytes
length_within bytes are long =
    let two_long : 4 ≤ length bytes = omega arith in
    let eight_long : 10 ≤ length bytes = omega arith in
    elim (cases_lt (slice_index bytes 1 % 128) 126) [
      | inl small ↦ record { form = Short; len = slice_index bytes 1 % 128; at = 2; ends = record { can_hold = small; bits = refl; within = omega arith; layout = refl }; early = omega arith }
      | inr big ↦ elim (cases_eq (slice_index bytes 1 % 128) 126) [
        | inl two ↦ let e = two_ends bytes are two_long two in record { form = Two; len = _; at = 4; ends = e; early = omega arith }
        | inr other ↦ let eight : slice_index bytes 1 % 128 ≡ 127 = omega arith in let e = eight_ends bytes are eight_long eight in record { form = Eight; len = _; at = 10; ends = e; early = omega arith }
      ]
    ]

record KeyWithin (bytes : List ℕ) (from : ℕ) : Type 0 where
  pub key : Option (List ℕ)
  pub at : ℕ
  pub ends : KeyEnds bytes from key at

key_within : (bytes : List ℕ) (from : ℕ) → AreBytes bytes → from ≤ 10 → 14 ≤ length bytes → KeyWithin bytes from
key_within bytes from are early long =
    elim (cases_lt (slice_index bytes 1) 128) [
      | inl none ↦ record { key = None; at = from; ends = record { is_key = tt; bit = sym (lt-leb 128 (slice_index bytes 1) none); within = omega arith; layout = refl } }
      | inr some ↦
          let size : length (take 4 (drop from bytes)) ≡ 4 = length-take-le 4 (drop from bytes) (omega (arith, length-drop from bytes)) in
          record {
            key = Some (take 4 (drop from bytes));
            at = from + 4;
            ends = record {
              is_key = (size, front_bytes 4 (drop from bytes) (AreBytes-drop from bytes are));
              bit = sym (le-leb 128 (slice_index bytes 1) some);
              within = omega arith;
              layout = sym (take-append-drop 4 (drop from bytes)) ∙ ap (λ (t : List ℕ). take 4 (drop from bytes) ++ t) (drop-drop 4 from bytes);
            };
          }
    ]

holds_header : (bytes : List ℕ) → AreBytes bytes → 14 ≤ length bytes → BeginsNoHeader bytes → ⊥
holds_header bytes are long none =
    let l = length_within bytes are long in
    let k = key_within bytes l.at are l.early long in
    let b = header_begins bytes l.form l.len l.at k.key k.at are (omega arith) l.ends k.ends in
    none _ (take k.at bytes) (drop k.at bytes) b.front (sym (take-append-drop k.at bytes))

pub short_without_header : (bytes : List ℕ) → AreBytes bytes → BeginsNoHeader bytes → length bytes < 14
short_without_header bytes are none = elim (cases_lt (length bytes) 14) [ inl short ↦ short | inr long ↦ absurd (holds_header bytes are long none) ]
