-- Digits that are written block after block.
use Rattle.std.proofs.Common.{◌≡◌, ◌∙◌, ℕ, zero, suc, ◌+◌, ◌/◌, ◌%◌, ◌<◌, false, List, [], ◌∷◌, ◌++◌}
use Rattle.std.proofs.Common.{get_or, take, drop, sym, ap, subst, arith}
use Rattle.std.proofs.Math.Seq.{take-add}
use Rattle.std.proofs.lemmas.Bool.Decides.{nat_tests}
use Rattle.std.proofs.lemmas.Grind.{flat_map-append}
use Rattle.std.specs.Fmt.{digits, digit_glyph}
use Rattle.std.specs.Str.{IsAscii}
use Rattle.ws_base.specs.Bytes.{AreBytes}
use Rattle.ws_formats.specs.Words.{hex}
use Rattle.ws_formats.proofs.HexWords.{are_bytes_tail, hex_cons}

glyph_below : (d : ℕ) → d < 16 → digit_glyph false d < 128
glyph_below d small = grind (arith, nat_tests)

-- digits are ASCII
pub hex_ascii : (bytes : List ℕ) → AreBytes bytes → IsAscii (hex bytes)
hex_ascii [] all i = omega arith
hex_ascii (byte ∷ bytes) all zero =
    subst (λ (l : List ℕ). get_or l 0 0 < 128) (sym (hex_cons byte bytes (all 0))) (glyph_below (byte / 16) (omega (arith, all 0)))
hex_ascii (byte ∷ bytes) all (suc zero) =
    subst (λ (l : List ℕ). get_or l 1 0 < 128) (sym (hex_cons byte bytes (all 0))) (glyph_below (byte % 16) (omega arith))
hex_ascii (byte ∷ bytes) all (suc (suc i)) =
    subst (λ (l : List ℕ). get_or l (suc (suc i)) 0 < 128) (sym (hex_cons byte bytes (all 0))) (hex_ascii bytes (are_bytes_tail byte bytes all) i)

-- a few bytes more
pub hex_more : (bytes : List ℕ) (at n : ℕ) → hex (take (at + n) bytes) ≡ hex (take at bytes) ++ hex (take n (drop at bytes))
hex_more bytes at n =
    ap hex (take-add at n bytes)
    ∙ flat_map-append (λ b. digits 16 false (b / 16) ++ digits 16 false (b % 16)) (take at bytes) (take n (drop at bytes))
