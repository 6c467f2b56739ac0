-- Where the length and the key of a header end.
use Rattle.std.proofs.Common.{◌≡◌, ℕ, ◌-◌, ◌%◌, ◌^◌, ◌<◌, ◌≤◌, List, ◌++◌, length, drop, Some, None, refl, sym, ap, ◌∙◌, arith}
use Rattle.std.specs.Prelude.{slice_index}
use Rattle.std.proofs.lemmas.Bool.{le-leb}
use Rattle.std.proofs.lemmas.List.{length-append, length-drop, append_cancel_left, drop-drop}
use Rattle.byteorder.specs.Endian.{big_bytes, big_number, big_from}
use Rattle.byteorder.specs.Numbers.{big_number-reads_back, big_from-lt}
use Rattle.ws_wire.specs.declared.header.Form.{Form}
use Rattle.ws_wire.specs.declared.header.Form.TheVariants.{Short, Two, Eight}
use Rattle.ws_wire.specs.Header.{AreBytes, CanHold, length_bits, length_bytes}
use Rattle.ws_wire.specs.InnerParts.{LengthEnds, LengthIsCut, KeyIsCut}
use Rattle.ws_wire.proofs.Numbers.{two_bytes, eight_bytes, AreBytes-drop}

-- ---- the length

pub two_ends : (bytes : List ℕ) → AreBytes bytes → 4 ≤ length bytes → slice_index bytes 1 % 128 ≡ 126 → LengthEnds bytes Two (big_number 2 (drop 2 bytes)) 4
two_ends bytes h l bits = record {
  can_hold = big_from-lt 0 2 (drop 2 bytes) (AreBytes-drop 2 bytes h);
  bits = bits;
  within = l;
  layout = two_bytes (drop 2 bytes) (AreBytes-drop 2 bytes h) (omega (arith, length-drop 2 bytes)) ∙ ap (λ (t : List ℕ). big_bytes 2 (big_number 2 (drop 2 bytes)) ++ t) (drop-drop 2 2 bytes);
}

pub eight_ends : (bytes : List ℕ) → AreBytes bytes → 10 ≤ length bytes → slice_index bytes 1 % 128 ≡ 127 → LengthEnds bytes Eight (big_number 8 (drop 2 bytes)) 10
eight_ends bytes h l bits = record {
  can_hold = big_from-lt 0 8 (drop 2 bytes) (AreBytes-drop 2 bytes h);
  bits = bits;
  within = l;
  layout = eight_bytes (drop 2 bytes) (AreBytes-drop 2 bytes h) (omega (arith, length-drop 2 bytes)) ∙ ap (λ (t : List ℕ). big_bytes 8 (big_number 8 (drop 2 bytes)) ++ t) (drop-drop 8 2 bytes);
}

pub two_cut : (bytes : List ℕ) → 2 ≤ length bytes → slice_index bytes 1 % 128 ≡ 126 → length bytes < 4 → LengthIsCut bytes
two_cut bytes two bits short Short len rest can e layout = absurd (omega arith)
two_cut bytes two bits short Two len rest can e layout = absurd (omega (arith, length-drop 2 bytes, ap length layout))
two_cut bytes two bits short Eight len rest can e layout = absurd (omega arith)

pub eight_cut : (bytes : List ℕ) → 2 ≤ length bytes → slice_index bytes 1 % 128 ≡ 127 → length bytes < 10 → LengthIsCut bytes
eight_cut bytes two bits short Short len rest can e layout = absurd (omega arith)
eight_cut bytes two bits short Two len rest can e layout = absurd (omega arith)
eight_cut bytes two bits short Eight len rest can e layout = absurd (omega (arith, length-drop 2 bytes, ap length layout))

-- the same bits and bytes are one form, one length and one rest
pub record SameLength (f g : Form) (m n : ℕ) (xs ys : List ℕ) : Type 0 where
  pub form : f ≡ g
  pub len : m ≡ n
  pub rest : xs ≡ ys

same_number : (w m n : ℕ) (xs ys : List ℕ) → m < 256 ^ w → n < 256 ^ w → big_bytes w m ++ xs ≡ big_bytes w n ++ ys → m ≡ n
same_number w m n xs ys lm ln e = sym (big_number-reads_back w m xs lm) ∙ ap (λ (t : List ℕ). big_from 0 w t) e ∙ big_number-reads_back w n ys ln

same_rest : (w m n : ℕ) (xs ys : List ℕ) → m ≡ n → big_bytes w m ++ xs ≡ big_bytes w n ++ ys → xs ≡ ys
same_rest w m n xs ys same e = append_cancel_left (big_bytes w m) xs ys (e ∙ ap (λ k. big_bytes w k ++ ys) (sym same))

pub same_length : (f g : Form) (m n : ℕ) (xs ys : List ℕ) → CanHold f m → CanHold g n → length_bits f m ≡ length_bits g n → length_bytes f m ++ xs ≡ length_bytes g n ++ ys → SameLength f g m n xs ys
same_length Short Short m n xs ys cm cn bits e = record { form = refl; len = bits; rest = e }
same_length Short Two m n xs ys cm cn bits e = absurd (omega arith)
same_length Short Eight m n xs ys cm cn bits e = absurd (omega arith)
same_length Two Short m n xs ys cm cn bits e = absurd (omega arith)
same_length Two Two m n xs ys cm cn bits e = let same = same_number 2 m n xs ys cm cn e in record { form = refl; len = same; rest = same_rest 2 m n xs ys same e }
same_length Two Eight m n xs ys cm cn bits e = absurd (omega arith)
same_length Eight Short m n xs ys cm cn bits e = absurd (omega arith)
same_length Eight Two m n xs ys cm cn bits e = absurd (omega arith)
same_length Eight Eight m n xs ys cm cn bits e = let same = same_number 8 m n xs ys cm cn e in record { form = refl; len = same; rest = same_rest 8 m n xs ys same e }

-- ---- the key

pub key_cut : (bytes : List ℕ) (at : ℕ) → at ≤ length bytes → 128 ≤ slice_index bytes 1 → length bytes - at < 4 → KeyIsCut bytes at
key_cut bytes at within bit short None rest is e layout = absurd (grind (arith, le-leb))
key_cut bytes at within bit short (Some key) rest is e layout = absurd (omega (arith, length-drop at bytes, ap length layout ∙ length-append key rest, is.0))
