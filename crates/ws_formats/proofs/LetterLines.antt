-- Words that are a line: given letter by letter, or hexadecimal digits.
use Rattle.std.proofs.Common.{◌≡◌, ◌≢◌, ◌∙◌, ℕ, zero, suc, ◌/◌, ◌%◌, ◌<◌, Bool, true, false, ◌&&◌, if◌then◌else◌, ◌==◌}
use Rattle.std.proofs.Common.{List, [], ◌∷◌, ◌++◌, ap, sym, refl, subst, arith}
use Rattle.std.proofs.lemmas.Bool.Decides.{nat_tests}
use Rattle.std.proofs.lemmas.Fmt.{hex_one_digit}
use Rattle.std.specs.Fmt.{digits, digit_glyph}
use Rattle.std.specs.List.{AllByRecursion, list_all}
use Rattle.ws_formats.specs.Words.{hex}
use Rattle.ws_base.specs.Bytes.{AreBytes}
use Rattle.ws_formats.specs.Lines.{IsLine}

abbrev pub IsNoFeed : ℕ → Type 0
IsNoFeed byte = byte ≢ 10

abbrev pub NoFeeds : List ℕ → Type 0
NoFeeds bytes = AllByRecursion IsNoFeed bytes

line_of : (bytes : List ℕ) → NoFeeds bytes → IsLine bytes
line_of [] h k d less = absurd (omega arith)
line_of (b ∷ bytes) h zero d less = h.0
line_of (b ∷ bytes) h (suc k) d less = line_of bytes h.1 k d (omega arith)

both_true : (x y : Bool) → (x && y) ≡ true → (x ≡ true) × (y ≡ true)
both_true true y e = (refl, e)
both_true false y e = absurd cc

abbrev pub is_no_feed : ℕ → Bool
is_no_feed byte = if byte == 10 then false else true

no_feed_by : (byte : ℕ) → is_no_feed byte ≡ true → IsNoFeed byte
no_feed_by byte h e =
    let wrong : false ≡ true = sym (ap (λ (x : ℕ). is_no_feed x) e) ∙ h in
    absurd cc

-- for a text that is given letter by letter
no_feeds_by : (bytes : List ℕ) → list_all is_no_feed bytes ≡ true → NoFeeds bytes
no_feeds_by [] h = tt
no_feeds_by (b ∷ bytes) h =
    let both = both_true (is_no_feed b) (list_all is_no_feed bytes) h in
    (no_feed_by b both.0, no_feeds_by bytes both.1)

no_feeds_joined : (a b : List ℕ) → NoFeeds a → NoFeeds b → NoFeeds (a ++ b)
no_feeds_joined [] b h i = i
no_feeds_joined (x ∷ a) b h i = (h.0, no_feeds_joined a b h.1 i)

glyph_no_feed : (d : ℕ) → IsNoFeed (digit_glyph false d)
glyph_no_feed d e =
    let above : 47 < digit_glyph false d = grind (arith, nat_tests) in
    omega (arith, above, e)

digit_no_feed : (d : ℕ) → d < 16 → NoFeeds (digits 16 false d)
digit_no_feed d small = subst (λ (l : List ℕ). NoFeeds l) (sym (hex_one_digit false d small)) (glyph_no_feed d, tt)

-- hexadecimal digits end no line
hex_no_feed : (bytes : List ℕ) → AreBytes bytes → NoFeeds (hex bytes)
hex_no_feed [] are = tt
hex_no_feed (b ∷ bytes) are =
    let small : b < 256 = are 0 in
    no_feeds_joined (digits 16 false (b / 16) ++ digits 16 false (b % 16)) (hex bytes)
    (no_feeds_joined (digits 16 false (b / 16)) (digits 16 false (b % 16)) (digit_no_feed (b / 16) (omega arith))
    (digit_no_feed (b % 16) (omega arith)))
    (hex_no_feed bytes (λ i. are (suc i)))

pub line_by : (bytes : List ℕ) → list_all is_no_feed bytes ≡ true → IsLine bytes
line_by bytes h = line_of bytes (no_feeds_by bytes h)

-- a line of letters, and after them hexadecimal digits
pub hex_line_by : (letters bytes : List ℕ) → list_all is_no_feed letters ≡ true → AreBytes bytes
    → IsLine (letters ++ hex bytes)
hex_line_by letters bytes h are =
    line_of (letters ++ hex bytes) (no_feeds_joined letters (hex bytes) (no_feeds_by letters h) (hex_no_feed bytes are))
