-- A line tells a segment or is one of `=`, and not both.
use Rattle.std.proofs.Common.{◌≡◌, ◌∙◌, ◌<◌, ◌/◌, ◌%◌, ◌==◌, ℕ, Bool, true, false, if◌then◌else◌, List, [], ◌∷◌, ◌++◌, ap, arith, length, refl, subst, sym}
use Rattle.std.proofs.lemmas.Bool.Decides.{nat_tests}
use Rattle.std.proofs.lemmas.Fmt.{hex_one_digit}
use Rattle.std.specs.Fmt.{digits, digit_glyph}
use Rattle.ws_base.specs.Bytes.{AreBytes}
use Rattle.ws_formats.specs.Words.{IsHexWord, hex}
use Rattle.ws_followed.specs.declared.segment.Node.{Node}
use Rattle.ws_followed.specs.declared.segment.Node.TheVariants.{Zero, One}
use Rattle.ws_followed.specs.declared.segment.Segment.{Segment}
use Rattle.ws_followed.specs.Followed.{IsRule}
use Rattle.ws_followed.specs.Segments.{AreSegmentBytes, IsSegmentLine, indent_of, parted_line}

-- a digit is neither a tab nor a `=` nor a `-`
digit_is_other : (d : ℕ) → d < 16 → (digit_glyph false d ≡ 9 → ⊥) × (digit_glyph false d ≡ 61 → ⊥)
    × (digit_glyph false d ≡ 45 → ⊥)
digit_is_other d small =
    (λ e. grind (arith, nat_tests), λ e. grind (arith, nat_tests), λ e. grind (arith, nat_tests))

-- the first digit of bytes
first_digit : (byte : ℕ) (bytes rest : List ℕ) (first : ℕ) → byte < 256 → first ∷ rest ≡ hex (byte ∷ bytes)
    → first ≡ digit_glyph false (byte / 16)
first_digit byte bytes rest first small e =
    let one = hex_one_digit false (byte / 16) (omega arith) in
    let same : first ∷ rest ≡ digit_glyph false (byte / 16) ∷ (digits 16 false (byte % 16) ++ hex bytes) =
    e ∙ ap (λ (l : List ℕ). (l ++ digits 16 false (byte % 16)) ++ hex bytes) one in
    cc

-- what spells bytes begins with neither a tab nor a `=` nor a `-`
word_begins : (bytes : List ℕ) (first : ℕ) (rest : List ℕ) → AreSegmentBytes bytes (first ∷ rest)
    → (first ≡ 9 → ⊥) × (first ≡ 61 → ⊥) × (first ≡ 45 → ⊥)
word_begins [] first rest (some, are, e) = absurd (omega arith)
word_begins (byte ∷ bytes) first rest (some, are, e) =
    let small : byte < 256 = are 0 in
    let is = first_digit byte bytes rest first small e in
    let other = digit_is_other (byte / 16) (omega arith) in
    (λ tab. other.0 (sym is ∙ tab), λ equals. other.1 (sym is ∙ equals), λ dash. other.2 (sym is ∙ dash))

-- ---- words

-- what spells a segment's bytes is a word of them, and `-` is none of any segment
pub is_hex_word : (bytes word : List ℕ) → AreSegmentBytes bytes word → IsHexWord bytes word
is_hex_word [] word (some, are, e) = absurd (omega (arith, some))
is_hex_word (byte ∷ bytes) word (some, are, e) = (are, e)

pub no_segment_of_none : (bytes word : List ℕ) → IsHexWord bytes word → length bytes ≡ 0 → (value : List ℕ)
    → AreSegmentBytes value word → ⊥
no_segment_of_none [] word is none value told =
    (word_begins value 45 [] (subst (λ (l : List ℕ). AreSegmentBytes value l) is.1 told)).2 refl
no_segment_of_none (byte ∷ bytes) word is none value told = absurd (omega (arith, none))

-- ---- lines

no_empty_word : (bytes : List ℕ) → AreSegmentBytes bytes [] → ⊥
no_empty_word [] (some, are, e) = absurd (omega arith)
no_empty_word (byte ∷ bytes) (some, are, e) =
    let one = hex_one_digit false (byte / 16) (omega (arith, are 0)) in
    let same : [] ≡ digit_glyph false (byte / 16) ∷ (digits 16 false (byte % 16) ++ hex bytes) =
    e ∙ ap (λ (l : List ℕ). (l ++ digits 16 false (byte % 16)) ++ hex bytes) one in
    absurd cc

other_than : (byte mark : ℕ) (a b : Node × List ℕ) → (byte ≡ mark → ⊥) → (if byte == mark then a else b) ≡ b
other_than byte mark a b other = grind (arith, nat_tests)

-- the line of a segment is parted into its end and its word
parted_so : (node : Node) (bytes word : List ℕ) → AreSegmentBytes bytes word
    → parted_line (indent_of node ++ word) ≡ (node, word)
parted_so One bytes word is = refl
parted_so Zero bytes [] is = absurd (no_empty_word bytes is)
parted_so Zero bytes (byte ∷ word) is = other_than byte 9 (One, word) (Zero, byte ∷ word) (word_begins bytes byte word is).0

pub parted_segment : (segment : Segment) (line : List ℕ) (node : Node) (word : List ℕ) → parted_line line ≡ (node, word)
    → IsSegmentLine segment line → AreSegmentBytes segment.bytes word × (segment.node ≡ node)
parted_segment segment line node word parted (spelled, is, e) =
    let same : (segment.node, spelled) ≡ (node, word) =
    sym (parted_so segment.node segment.bytes spelled is) ∙ (ap (λ (l : List ℕ). parted_line l) (sym e) ∙ parted) in
    (subst (λ (l : List ℕ). AreSegmentBytes segment.bytes l) (ap (λ (p : Node × List ℕ). p.1) same) is, ap (λ (p : Node × List ℕ). p.0) same)

-- a line of `=` tells no segment
begins_otherwise : (node : Node) (bytes word : List ℕ) (first : ℕ) (rest : List ℕ) → AreSegmentBytes bytes word
    → first ∷ rest ≡ indent_of node ++ word → first ≡ 61 → ⊥
begins_otherwise One bytes word first rest is e equals =
    let tab : first ≡ 9 = cc in
    absurd (omega (arith, tab, equals))
begins_otherwise Zero bytes [] first rest is e equals = absurd cc
begins_otherwise Zero bytes (byte ∷ word) first rest is e equals =
    let same : byte ≡ first = cc in
    (word_begins bytes byte word is).1 (same ∙ equals)

pub rule_tells_none : (segment : Segment) (line : List ℕ) → IsRule line → IsSegmentLine segment line → ⊥
rule_tells_none segment [] rule is = absurd (let none : 0 < 0 = rule.0 in omega arith)
rule_tells_none segment (byte ∷ bytes) rule (word, is, e) =
    begins_otherwise segment.node segment.bytes word byte bytes is e (rule.1 0 0 (omega arith))
