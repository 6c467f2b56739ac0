-- What is shown of a text is UTF-8: its characters are, and escapes are ASCII.
use Rattle.std.proofs.Common.{◌≡◌, ℕ, zero, suc, ◌+◌, ◌-◌, ◌/◌, ◌%◌, ◌<◌, Bool, true, false, List, [], ◌∷◌, ◌++◌}
use Rattle.std.proofs.Common.{arith, codes, inl, inr, length, nat_lt, refl, subst, sym, take}
use Rattle.std.specs.Prelude.{◌&&◌, ◌==◌, if◌then◌else◌, cond}
use Rattle.std.specs.Char.{encode_utf8}
use Rattle.std.specs.List.{flat_map, list_all}
use Rattle.std.specs.Str.{IsAscii, IsUtf8, all_scalars, chars, is_utf8}
use lib.Utf8.{scalar}
use Rattle.std.proofs.Math.Utf8.{scalar_cases}
use Rattle.std.proofs.lemmas.Str.{IsUtf8-append, IsUtf8-encode, IsUtf8-from_ascii, IsUtf8-from_is_utf8, IsUtf8-nil}
use Rattle.std.proofs.lemmas.Str.{scalars-chars}
use Rattle.std.proofs.lemmas.Bool.Decides.{nat_tests}
use Rattle.ws_base.specs.Bytes.{AreBytes}
use Rattle.ws_formats.specs.Words.{hex}
use Rattle.ws_formats.specs.QuotedText.{escape_of, is_escaped, quoted_end, quoted_if_text, quoted_word, shown_character}
use Rattle.ws_formats.specs.QuotedText.{unit_escape}
use Rattle.ws_formats.proofs.HexByBlocks.{hex_ascii}

both_true : (x y : Bool) → (x && y) ≡ true → (x ≡ true) × (y ≡ true)
both_true true y e = (refl, e)
both_true false y e = absurd cc

either : (b : Bool) (xs ys : List ℕ) → IsUtf8 xs → IsUtf8 ys → IsUtf8 (if b then xs else ys)
either true xs ys x y = x
either false xs ys x y = y

ascii : (bytes : List ℕ) → list_all (λ b. nat_lt b 128) bytes ≡ true → IsAscii bytes
ascii [] all i = omega arith
ascii (byte ∷ bytes) all zero = grind (arith, (both_true (nat_lt byte 128) (list_all (λ b. nat_lt b 128) bytes) all).0)
ascii (byte ∷ bytes) all (suc i) =
    ascii bytes (both_true (nat_lt byte 128) (list_all (λ b. nat_lt b 128) bytes) all).1 i

small : (bytes : List ℕ) → list_all (λ b. nat_lt b 128) bytes ≡ true → IsUtf8 bytes
small bytes all = IsUtf8-from_ascii bytes (ascii bytes all)

two_bytes : (a b : ℕ) → a < 256 → b < 256 → AreBytes (a ∷ b ∷ [])
two_bytes a b x y zero = x
two_bytes a b x y (suc zero) = y
two_bytes a b x y (suc (suc i)) = omega arith

unit_is : (unit : ℕ) → unit < 65536 → IsUtf8 (unit_escape unit)
unit_is unit fits =
    let pair = unit / 256 ∷ unit % 256 ∷ [] in
    IsUtf8-append (codes "\\u") (hex pair) (small (codes "\\u") refl)
    (IsUtf8-from_ascii (hex pair)
    (hex_ascii pair (two_bytes (unit / 256) (unit % 256) (omega (arith, fits)) (omega arith))))

units_are : (c : ℕ) → c < 1114112 → (b : Bool) → nat_lt c 0x1_0000 ≡ b → IsUtf8 (flat_map unit_escape
    (cond b (c ∷ []) ((0xD800 + (c - 0x1_0000) / 0x400) ∷ (0xDC00 + (c - 0x1_0000) % 0x400) ∷ [])))
units_are c most true is =
    let below : c < 65536 = grind (arith, is, nat_tests) in
    IsUtf8-append (unit_escape c) [] (unit_is c below) IsUtf8-nil
units_are c most false is =
    let high = 0xD800 + (c - 0x1_0000) / 0x400 in
    let low = 0xDC00 + (c - 0x1_0000) % 0x400 in
    IsUtf8-append (unit_escape high) (unit_escape low ++ []) (unit_is high (omega (arith, most)))
    (IsUtf8-append (unit_escape low) [] (unit_is low (omega arith)) IsUtf8-nil)

scalar_is_small : (c : ℕ) → scalar c ≡ true → c < 1114112
scalar_is_small c is = elim (scalar_cases c is) [
  | inl low ↦ omega (arith, low)
  | inr high ↦ high.1
]

escape_is : (c : ℕ) → scalar c ≡ true → IsUtf8 (escape_of c)
escape_is c is =
    either (c == 34) (codes "\\\"") _ (small (codes "\\\"") refl)
    (either (c == 92) (codes "\\\\") _ (small (codes "\\\\") refl)
    (either (c == 10) (codes "\\n") _ (small (codes "\\n") refl)
    (either (c == 13) (codes "\\r") _ (small (codes "\\r") refl)
    (either (c == 9) (codes "\\t") _ (small (codes "\\t") refl)
    (units_are c (scalar_is_small c is) (nat_lt c 0x1_0000) refl)))))

shown_is : (c : ℕ) → scalar c ≡ true → IsUtf8 (shown_character c)
shown_is c is = either (is_escaped c) (escape_of c) (encode_utf8 c) (escape_is c is) (IsUtf8-encode c is)

first_are : (n : ℕ) (cs : List ℕ) → all_scalars cs ≡ true → IsUtf8 (flat_map shown_character (take n cs))
first_are zero cs all = IsUtf8-nil
first_are (suc n) [] all = IsUtf8-nil
first_are (suc n) (c ∷ cs) all =
    let (here, more) = both_true (scalar c) (all_scalars cs) all in
    IsUtf8-append (shown_character c) (flat_map shown_character (take n cs)) (shown_is c here) (first_are n cs more)

end_is : (more : Bool) → IsUtf8 (quoted_end more)
end_is true = small (codes "\"..") refl
end_is false = small (codes "\"") refl

quoted_is : (cs : List ℕ) → all_scalars cs ≡ true → IsUtf8 (quoted_word cs)
unfolding quoted_word
quoted_is cs all =
    let shown = flat_map shown_character (take 64 cs) in
    let end = quoted_end (nat_lt 64 (length cs)) in
    IsUtf8-append (codes "\"") (shown ++ end) (small (codes "\"") refl)
    (IsUtf8-append shown end (first_are 64 cs all) (end_is (nat_lt 64 (length cs))))

-- what is put of a payload that is text is UTF-8
pub shown_text_is_utf8 : (payload : List ℕ) → is_utf8 payload ≡ true → IsUtf8 (quoted_if_text payload)
shown_text_is_utf8 payload is =
    subst (λ (b : Bool). IsUtf8 (if b then quoted_word (chars payload) else [])) (sym is)
    (quoted_is (chars payload) (scalars-chars payload (IsUtf8-from_is_utf8 payload is)))
