-- A line has one kind, and ends no line.
use Rattle.std.proofs.Common.{◌≡◌, ◌∙◌, ℕ, zero, suc, ◌+◌, ◌*◌, ◌<◌, inl, inr, List, [], ◌∷◌, ◌++◌, length, codes, slice_index, ap, sym, refl, subst, arith, Option, Some, None}
use Rattle.std.specs.List.{AllByRecursion, AllZip}
use Rattle.ws_base.specs.Finding.{Finds}
use Rattle.ws_formats.specs.Lines.{IsLine}
use Rattle.ws_formats.specs.Reading.{AreDigits, ArePairs}
use Rattle.ws_formats.proofs.HexReads.{pair_of, pairs_are_digits, pairs_even}
use Rattle.ws_formats.proofs.HexWords.{pairs_cons}
use Rattle.ws_formats.proofs.LetterLines.{hex_line_by, line_by}
use Rattle.ws_capture_text.specs.declared.mark.Mark.{Mark}
use Rattle.ws_capture_text.specs.declared.mark.Mark.TheVariants.{Sent, Got}
use Rattle.ws_capture_text.specs.declared.line_kind.LineKind.{LineKind}
use Rattle.ws_capture_text.specs.declared.line_kind.LineKind.TheVariants.{FirstOf1, FirstOf2, Key, Begin, Data, End, Broken}
use Rattle.ws_capture_text.specs.InnerMarks.{letter, mark_by, parted, with_word}
use Rattle.ws_capture_text.specs.InnerJoining.{mark_in}
use Rattle.ws_capture_text.specs.InnerKinds.{IsKindOf, IsPlainKindOf, SpellsSome}

-- ---- bytes that a word spells

digits_after : (high low : ℕ) (word : List ℕ) → AreDigits (high ∷ low ∷ word) → AreDigits word
digits_after high low word all i less = all (suc (suc i)) (omega arith)

-- digits of an even number are the pairs of some bytes
spelled : (n : ℕ) (word : List ℕ) → length word ≡ 2 * n → AreDigits word
    → (bytes : List ℕ) × (length bytes ≡ n) × ArePairs bytes word
spelled zero [] long all = ([], refl, ((λ i. omega arith), refl))
spelled zero (high ∷ word) long all = absurd (omega arith)
spelled (suc n) [] long all = absurd (omega arith)
spelled (suc n) (high ∷ []) long all = absurd (omega arith)
spelled (suc n) (high ∷ low ∷ word) long all =
    let x = all 0 (omega arith) in
    let y = all 1 (omega arith) in
    let (bytes, count, are) = spelled n word (omega arith) (digits_after high low word all) in
    let byte = x.0 * 16 + y.0 in (
      byte ∷ bytes,
      ap suc count,
      pairs_cons byte high low bytes word (pair_of byte high low x.0 y.0 x.1 y.1 x.2 y.2 refl) are,
    )

pub digits_spell : (n : ℕ) (word : List ℕ) → length word ≡ 2 * n → 0 < n → AreDigits word → SpellsSome word
digits_spell n word long some all =
    let (bytes, count, are) = spelled n word long all in (bytes, omega (arith, count, some), are.0, are.1)

pub spelled_digits : (word : List ℕ) → SpellsSome word → AreDigits word
spelled_digits word (bytes, some, are, e) = pairs_are_digits bytes word (are, e)

pub spelled_even : (word : List ℕ) → SpellsSome word → (n : ℕ) × (length word ≡ 2 * n) × (0 < n)
spelled_even word (bytes, some, are, e) = (length bytes, pairs_even bytes word (are, e), some)

-- ---- lines with a mark

abbrev word_in : Option (Mark × List ℕ) → List ℕ
word_in None = []
word_in (Some parts) = parts.1

none_some : (parts : Mark × List ℕ) → None ≡ Some parts → ⊥
none_some parts e = absurd cc

with_word_parts : (mark : Option Mark) (own : Mark) (word other : List ℕ) → with_word mark word ≡ Some (own, other)
    → (mark ≡ Some own) × (word ≡ other)
with_word_parts None own word other e = absurd cc
with_word_parts (Some mark) own word other e =
    (ap (λ (p : Option (Mark × List ℕ)). mark_in p) e, ap (λ (p : Option (Mark × List ℕ)). word_in p) e)

mark_by_letter : (byte : ℕ) (mark : Mark) → mark_by byte ≡ Some mark → byte ≡ letter mark
mark_by_letter byte Sent e = grind (arith, e)
mark_by_letter byte Got e = grind (arith, e)

pub parted_line : (line : List ℕ) (mark : Mark) (word : List ℕ) → parted line ≡ Some (mark, word)
    → line ≡ letter mark ∷ 32 ∷ word
parted_line [] mark word e = absurd cc
parted_line (byte ∷ []) mark word e = absurd cc
parted_line (byte ∷ next ∷ rest) mark word e =
    let space : next ≡ 32 = grind (arith, e) in
    let (own, same) = with_word_parts (mark_by byte) mark rest word
    (subst (λ (n : ℕ). parted (byte ∷ n ∷ rest) ≡ Some (mark, word)) space e) in
    let first : byte ≡ letter mark = mark_by_letter byte mark own in
    subst (λ (n : ℕ). byte ∷ n ∷ rest ≡ letter mark ∷ 32 ∷ word) (sym space)
    (subst (λ (l : List ℕ). byte ∷ 32 ∷ l ≡ letter mark ∷ 32 ∷ word) (sym same)
    (ap (λ (b : ℕ). b ∷ 32 ∷ word) first))

pub line_parted : (mark : Mark) (word : List ℕ) → parted (letter mark ∷ 32 ∷ word) ≡ Some (mark, word)
line_parted Sent word = refl
line_parted Got word = refl

same_tail : (a b : ℕ) (xs ys : List ℕ) → a ∷ 32 ∷ xs ≡ b ∷ 32 ∷ ys → xs ≡ ys
same_tail a b xs ys e = cc

-- ---- one kind

first_letter : LineKind → ℕ
first_letter FirstOf1 = 119
first_letter FirstOf2 = 119
first_letter Key = 107
first_letter Begin = 116
first_letter (Data Sent) = 62
first_letter (Data Got) = 60
first_letter End = 101
first_letter Broken = 101

begins_with : (kind : LineKind) (line : List ℕ) → IsKindOf kind line → slice_index line 0 ≡ first_letter kind
unfolding first_letter
begins_with FirstOf1 line is = ap (λ (l : List ℕ). slice_index l 0) is
begins_with FirstOf2 line is = ap (λ (l : List ℕ). slice_index l 0) is
begins_with Key line (inl is) = ap (λ (l : List ℕ). slice_index l 0) is
begins_with Key line (inr is) = ap (λ (l : List ℕ). slice_index l 0) is.2
begins_with Begin line is = ap (λ (l : List ℕ). slice_index l 0) is
begins_with (Data Sent) line is = ap (λ (l : List ℕ). slice_index l 0) is.2
begins_with (Data Got) line is = ap (λ (l : List ℕ). slice_index l 0) is.2
begins_with End line (inl is) = ap (λ (l : List ℕ). slice_index l 0) is
begins_with End line (inr is) = ap (λ (l : List ℕ). slice_index l 0) is
begins_with Broken line is = ap (λ (l : List ℕ). slice_index l 0) is

same_letter : (a b : LineKind) (line : List ℕ) → IsKindOf a line → IsKindOf b line → first_letter a ≡ first_letter b
same_letter a b line is other = sym (begins_with a line is) ∙ begins_with b line other

end_is_broken : (line : List ℕ) → IsKindOf End line → IsKindOf Broken line → ⊥
end_is_broken line (inl is) other =
    let wrong : 116 ≡ 98 = ap (λ (l : List ℕ). slice_index l 4) (sym is ∙ other) in omega (arith, wrong)
end_is_broken line (inr is) other =
    let wrong : 112 ≡ 98 = ap (λ (l : List ℕ). slice_index l 4) (sym is ∙ other) in omega (arith, wrong)

first_is_one : (line : List ℕ) → IsKindOf FirstOf1 line → IsKindOf FirstOf2 line → ⊥
first_is_one line is other =
    let wrong : 49 ≡ 50 = ap (λ (l : List ℕ). slice_index l 12) (sym is ∙ other) in omega (arith, wrong)

low : (mark : Mark) → first_letter (Data mark) < 63
unfolding first_letter
low Sent = omega arith
low Got = omega arith

one_mark : (a b : Mark) → first_letter (Data a) ≡ first_letter (Data b) → Data a ≡ Data b
unfolding first_letter
one_mark Sent Sent e = refl
one_mark Got Got e = refl
one_mark Sent Got e = absurd (omega (arith, e))
one_mark Got Sent e = absurd (omega (arith, e))

pub one_kind : (a b : LineKind) (line : List ℕ) → IsKindOf a line → IsKindOf b line → a ≡ b
unfolding first_letter
one_kind FirstOf1 FirstOf1 line is other = refl
one_kind FirstOf2 FirstOf2 line is other = refl
one_kind FirstOf1 FirstOf2 line is other = absurd (first_is_one line is other)
one_kind FirstOf2 FirstOf1 line is other = absurd (first_is_one line other is)
one_kind Key Key line is other = refl
one_kind Begin Begin line is other = refl
one_kind (Data a) (Data b) line is other = one_mark a b (same_letter (Data a) (Data b) line is other)
one_kind (Data a) b line is other =
    let wrong : first_letter (Data a) ≡ first_letter b = same_letter (Data a) b line is other in
    absurd (omega (arith, wrong, low a))
one_kind a (Data b) line is other =
    let wrong : first_letter a ≡ first_letter (Data b) = same_letter a (Data b) line is other in
    absurd (omega (arith, wrong, low b))
one_kind End End line is other = refl
one_kind Broken Broken line is other = refl
one_kind End Broken line is other = absurd (end_is_broken line is other)
one_kind Broken End line is other = absurd (end_is_broken line other is)
one_kind a b line is other =
    let wrong : first_letter a ≡ first_letter b = same_letter a b line is other in absurd (omega (arith, wrong))

-- ---- a line with a mark, or without

pub data_is : (mark : Mark) (word line : List ℕ) → parted line ≡ Some (mark, word) → SpellsSome word
    → IsKindOf (Data mark) line
data_is mark word line e is = (word, is, parted_line line mark word e)

-- a line whose mark stands before no bytes has no kind
pub no_kind : (mark : Mark) (word line : List ℕ) → parted line ≡ Some (mark, word) → (SpellsSome word → ⊥)
    → (kind : LineKind) → IsKindOf kind line → ⊥
unfolding first_letter
no_kind mark word line e none kind is = go mark kind (parted_line line mark word e) is
  where
    go : (mark : Mark) (kind : LineKind) → line ≡ letter mark ∷ 32 ∷ word → IsKindOf kind line → ⊥
    go mark (Data own) f is = none (subst SpellsSome (same_tail (letter own) (letter mark) is.0 word (sym is.2 ∙ f)) is.1)
    go Sent kind f is =
        let wrong : 62 ≡ first_letter kind = ap (λ (l : List ℕ). slice_index l 0) (sym f) ∙ begins_with kind line is in
        absurd (omega arith)
    go Got kind f is =
        let wrong : 60 ≡ first_letter kind = ap (λ (l : List ℕ). slice_index l 0) (sym f) ∙ begins_with kind line is in
        absurd (omega arith)

-- a line without a mark is of a kind without bytes, or of none
pub plain_kind : (kind : LineKind) (line : List ℕ) → IsPlainKindOf kind line → IsKindOf kind line
plain_kind FirstOf1 line is = is
plain_kind FirstOf2 line is = is
plain_kind Key line is = is
plain_kind Begin line is = is
plain_kind (Data mark) line is = absurd is
plain_kind End line is = is
plain_kind Broken line is = is

kind_plain : (kind : LineKind) (line : List ℕ) → parted line ≡ None → IsKindOf kind line → IsPlainKindOf kind line
kind_plain FirstOf1 line e is = is
kind_plain FirstOf2 line e is = is
kind_plain Key line e is = is
kind_plain Begin line e is = is
kind_plain (Data mark) line e is =
    absurd (none_some (mark, is.0) (sym e ∙ (ap (λ (l : List ℕ). parted l) is.2 ∙ line_parted mark is.0)))
kind_plain End line e is = is
kind_plain Broken line e is = is

pub plain_found : (line : List ℕ) (found : Option LineKind) → parted line ≡ None
    → Finds found (λ kind. IsPlainKindOf kind line) → Finds found (λ kind. IsKindOf kind line)
plain_found line None e none = λ kind is. none kind (kind_plain kind line e is)
plain_found line (Some kind) e is = plain_kind kind line is

-- ---- lines of text

pub kind_is_line : (kind : LineKind) (line : List ℕ) → IsKindOf kind line → IsLine line
kind_is_line FirstOf1 line is = subst IsLine (sym is) (line_by (codes "wst-capture 1") refl)
kind_is_line FirstOf2 line is = subst IsLine (sym is) (line_by (codes "wst-capture 2") refl)
kind_is_line Key line (inl is) = subst IsLine (sym is) (line_by (codes "key -") refl)
kind_is_line Key line (inr is) = subst IsLine (sym is.2) (hex_line_by (codes "key ") is.0 refl is.1.1)
kind_is_line Begin line is = subst IsLine (sym is) (line_by (codes "turn") refl)
kind_is_line (Data Sent) line (word, (bytes, some, are, spelled), is) =
    subst IsLine (sym (is ∙ ap (λ (l : List ℕ). codes "> " ++ l) spelled)) (hex_line_by (codes "> ") bytes refl are)
kind_is_line (Data Got) line (word, (bytes, some, are, spelled), is) =
    subst IsLine (sym (is ∙ ap (λ (l : List ℕ). codes "< " ++ l) spelled)) (hex_line_by (codes "< ") bytes refl are)
kind_is_line End line (inl is) = subst IsLine (sym is) (line_by (codes "end tester") refl)
kind_is_line End line (inr is) = subst IsLine (sym is) (line_by (codes "end peer") refl)
kind_is_line Broken line is = subst IsLine (sym is) (line_by (codes "end broken") refl)

pub kinds_are_lines : (kinds : List LineKind) (lines : List (List ℕ)) → AllZip IsKindOf kinds lines
    → AllByRecursion IsLine lines
kinds_are_lines [] [] are = tt
kinds_are_lines [] (line ∷ lines) are = absurd are
kinds_are_lines (kind ∷ kinds) [] are = absurd are
kinds_are_lines (kind ∷ kinds) (line ∷ lines) are = (kind_is_line kind line are.0, kinds_are_lines kinds lines are.1)
