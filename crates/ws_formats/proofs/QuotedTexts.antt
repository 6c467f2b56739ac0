-- A text between quotation marks: plain bytes are the characters that they spell, and characters are put one by one.
use Rattle.std.proofs.Common.{◌≡◌, ◌∙◌, ℕ, zero, suc, ◌+◌, ◌<◌, ◌≤◌, Bool, true, false}
use Rattle.std.proofs.Common.{List, [], ◌∷◌, ◌++◌, length, take, drop, get_or}
use Rattle.std.proofs.Common.{arith, refl, sym, ap, ap₂, subst, codes, append_assoc, append-nil, nat_lt}
use Rattle.std.specs.Prelude.{◌&&◌, ◌||◌, ◌==◌, if◌then◌else◌, nat_le, not}
use Rattle.std.specs.Char.{encode_utf8, is_control}
use lib.Utf8.{scalar}
use Rattle.std.specs.Int.{is_in_range}
use Rattle.std.specs.List.{flat_map, list_all}
use Rattle.std.specs.Str.{IsAscii, IsCharBoundary, IsUtf8, all_scalars, chars, is_utf8}
use Rattle.std.proofs.lemmas.Bool.{leb-true}
use Rattle.std.proofs.lemmas.Bool.Decides.{nat_tests}
use Rattle.std.proofs.lemmas.Grind.{flat_map-append}
use Rattle.std.proofs.lemmas.List.Folds.{list_all_more}
use Rattle.std.proofs.lemmas.List.{length-append, length-take-le, nil_from_length, take_at, take_all}
use Rattle.std.proofs.lemmas.Str.{IsCharBoundary-after_ascii, IsCharBoundary-start}
use Rattle.std.proofs.lemmas.Str.{IsUtf8-from_ascii, IsUtf8-from_is_utf8, chars-encodes, chars-nil, cons_from_encodes}
use Rattle.std.proofs.lemmas.Str.{encode_ascii, is_utf8-from_IsUtf8}
use Rattle.ws_formats.specs.QuotedText.{quoted_end, escape_of, is_escaped, is_invisible, is_shown_plainly, quoted_word}
use Rattle.ws_formats.specs.QuotedText.{shown_character, quoted_if_text}

-- ---- plain bytes

both_true : (x y : Bool) → (x && y) ≡ true → (x ≡ true) × (y ≡ true)
both_true true y e = (refl, e)
both_true false y e = absurd cc

plain_is_small : (byte : ℕ) → is_shown_plainly byte ≡ true → byte < 128
plain_is_small byte e =
    let (low, rest) = both_true (nat_le 32 byte) (nat_le byte 126 && (not (byte == 34) && not (byte == 92))) e in
    let (high, marks) = both_true (nat_le byte 126) (not (byte == 34) && not (byte == 92)) rest in
    omega (arith, leb-true byte 126 high)

-- a test that is denied fails
denied : (x : Bool) → not x ≡ true → x ≡ false
denied true e = absurd cc
denied false e = refl

neither : (x y : Bool) → x ≡ false → y ≡ false → (x || y) ≡ false
neither true y e f = absurd cc
neither false y e f = f

before_range : (low high c : ℕ) → c < low → is_in_range low high c ≡ false
before_range low high c below = grind (below, arith, nat_tests)

-- what is below U+00AD is seen
plain_is_seen : (c : ℕ) → c < 127 → is_invisible c ≡ false
plain_is_seen c small =
    neither (is_in_range 0xad 0xad c) _ (before_range 0xad 0xad c (omega (arith, small)))
    (neither (is_in_range 0x61c 0x61c c) _ (before_range 0x61c 0x61c c (omega (arith, small)))
    (neither (is_in_range 0x180e 0x180e c) _ (before_range 0x180e 0x180e c (omega (arith, small)))
    (neither (is_in_range 0x200b 0x200f c) _ (before_range 0x200b 0x200f c (omega (arith, small)))
    (neither (is_in_range 0x2028 0x202e c) _ (before_range 0x2028 0x202e c (omega (arith, small)))
    (neither (is_in_range 0x2060 0x206f c) _ (before_range 0x2060 0x206f c (omega (arith, small)))
    (neither (is_in_range 0xfeff 0xfeff c) _ (before_range 0xfeff 0xfeff c (omega (arith, small)))
    (neither (is_in_range 0xfff9 0xfffb c) _ (before_range 0xfff9 0xfffb c (omega (arith, small)))
    (neither (is_in_range 0xfffe 0xffff c) _ (before_range 0xfffe 0xffff c (omega (arith, small)))
    (before_range 0xe0000 0xe007f c (omega (arith, small)))))))))))

plain_is_no_control : (c : ℕ) → 32 ≤ c → c < 127 → is_control c ≡ false
plain_is_no_control c low high = grind (low, high, arith, nat_tests)

-- a plain byte is shown as it is
plain_is_shown : (byte : ℕ) → is_shown_plainly byte ≡ true → shown_character byte ≡ byte ∷ []
plain_is_shown byte e =
    let (low, rest) = both_true (nat_le 32 byte) (nat_le byte 126 && (not (byte == 34) && not (byte == 92))) e in
    let (high, marks) = both_true (nat_le byte 126) (not (byte == 34) && not (byte == 92)) rest in
    let (mark, slash) = both_true (not (byte == 34)) (not (byte == 92)) marks in
    let above : 32 ≤ byte = leb-true 32 byte low in
    let small : byte < 127 = omega (arith, leb-true byte 126 high) in
    let seen : is_escaped byte ≡ false =
    neither (byte == 34) _ (denied (byte == 34) mark) (neither (byte == 92) _ (denied (byte == 92) slash)
    (neither (is_control byte) _ (plain_is_no_control byte above small) (plain_is_seen byte small))) in
    ap (λ (b : Bool). if b then escape_of byte else encode_utf8 byte) seen
    ∙ encode_ascii byte (omega (arith, small))

-- a byte of ASCII is a character
chars_step : (byte : ℕ) (bytes : List ℕ) → byte < 128 → chars (byte ∷ bytes) ≡ byte ∷ chars bytes
unfolding chars
chars_step byte [] small = grind (arith, nat_tests, small)
chars_step byte (next ∷ bytes) small = grind (arith, nat_tests, small)

some_follow : (n : ℕ) → nat_lt 0 (suc n) ≡ true
some_follow n = grind (arith, nat_tests)

one_less : (n m : ℕ) → nat_lt (suc n) (suc m) ≡ nat_lt n m
one_less n m = grind (arith, nat_tests)

-- where the first bytes and one more are plain, the first characters are those bytes
shown_front : (n : ℕ) (bytes : List ℕ) → list_all is_shown_plainly (take (suc n) bytes) ≡ true
    → (flat_map shown_character (take n (chars bytes)) ≡ take n bytes)
    × (nat_lt n (length (chars bytes)) ≡ nat_lt n (length bytes))
shown_front zero [] all = (refl, ap (λ (l : List ℕ). nat_lt 0 (length l)) chars-nil)
shown_front zero (byte ∷ bytes) all =
    let (here, none) = both_true (is_shown_plainly byte) true all in (
      refl,
      ap (λ (l : List ℕ). nat_lt 0 (length l)) (chars_step byte bytes (plain_is_small byte here))
          ∙ some_follow (length (chars bytes)) ∙ sym (some_follow (length bytes)),
    )
shown_front (suc n) [] all = (
  ap (λ (l : List ℕ). flat_map shown_character (take (suc n) l)) chars-nil,
  ap (λ (l : List ℕ). nat_lt (suc n) (length l)) chars-nil,
)
shown_front (suc n) (byte ∷ bytes) all =
    let (here, more) = both_true (is_shown_plainly byte) (list_all is_shown_plainly (take (suc n) bytes)) all in
    let step = chars_step byte bytes (plain_is_small byte here) in
    let (front, count) = shown_front n bytes more in (
      ap (λ (l : List ℕ). flat_map shown_character (take (suc n) l)) step
          ∙ ap₂ (λ (a b : List ℕ). a ++ b) (plain_is_shown byte here) front,
      ap (λ (l : List ℕ). nat_lt (suc n) (length l)) step ∙ one_less n (length (chars bytes)) ∙ count
          ∙ sym (one_less n (length bytes)),
    )

-- the first of plain bytes are plain, and all are UTF-8
pub front_is_plain : (n : ℕ) (bytes : List ℕ) → list_all is_shown_plainly bytes ≡ true
    → list_all is_shown_plainly (take n bytes) ≡ true
front_is_plain zero bytes all = refl
front_is_plain (suc n) [] all = refl
front_is_plain (suc n) (byte ∷ bytes) all =
    let (here, more) = both_true (is_shown_plainly byte) (list_all is_shown_plainly bytes) all in
    ap₂ (λ (a b : Bool). a && b) here (front_is_plain n bytes more)

plain_is_ascii : (bytes : List ℕ) → list_all is_shown_plainly bytes ≡ true → IsAscii bytes
plain_is_ascii [] all i = omega arith
plain_is_ascii (byte ∷ bytes) all zero =
    plain_is_small byte (both_true (is_shown_plainly byte) (list_all is_shown_plainly bytes) all).0
plain_is_ascii (byte ∷ bytes) all (suc i) =
    plain_is_ascii bytes (both_true (is_shown_plainly byte) (list_all is_shown_plainly bytes) all).1 i

pub plain_is_utf8 : (bytes : List ℕ) → list_all is_shown_plainly bytes ≡ true → is_utf8 bytes ≡ true
plain_is_utf8 bytes all = is_utf8-from_IsUtf8 bytes (IsUtf8-from_ascii bytes (plain_is_ascii bytes all))

pub no_text : (payload : List ℕ) → (IsUtf8 payload → ⊥) → is_utf8 payload ≡ false
no_text payload none = by (is_utf8 payload) (λ e. none (IsUtf8-from_is_utf8 payload e))
  where
    by : (b : Bool) → (b ≡ true → ⊥) → b ≡ false
    by true denied = absurd (denied refl)
    by false denied = refl

-- what is put, by whether it is text
pub put_if_any : (payload before after : List ℕ) → is_utf8 payload ≡ true
    → after ≡ before ++ quoted_word (chars payload) → after ≡ before ++ quoted_if_text payload
put_if_any payload before after is put =
    put ∙ ap (λ (b : Bool). before ++ (if b then quoted_word (chars payload) else [])) (sym is)

pub none_put : (payload before : List ℕ) → is_utf8 payload ≡ false → before ≡ before ++ quoted_if_text payload
none_put payload before is =
    sym (append-nil before) ∙ ap (λ (b : Bool). before ++ (if b then quoted_word (chars payload) else [])) (sym is)

pub plain_quoted : (bytes : List ℕ) → list_all is_shown_plainly (take 65 bytes) ≡ true
    → quoted_word (chars bytes) ≡ codes "\"" ++ (take 64 bytes ++ quoted_end (nat_lt 64 (length bytes)))
unfolding quoted_word
plain_quoted bytes all =
    let (front, count) = shown_front 64 bytes all in
    ap₂ (λ (shown : List ℕ) (more : Bool). codes "\"" ++ (shown ++ quoted_end more)) front count

-- ---- characters

-- the characters so far were put behind these bytes
pub record AreShown (text rest before after : List ℕ) (count : ℕ) : Type 0 where
  pub done : List ℕ
  pub parts : chars text ≡ done ++ chars rest
  pub len : length done ≡ count
  pub put : after ≡ before ++ flat_map shown_character done

pub none_shown : (text rest before : List ℕ) → rest ≡ text → AreShown text rest before before 0
none_shown text rest before e = record {
  done = [];
  parts = ap chars (sym e);
  len = refl;
  put = sym (append-nil before);
}

-- the first of the characters that are left
first_of_chars : (c : ℕ) (rest left : List ℕ) → IsUtf8 rest → rest ≡ encode_utf8 c ++ left → chars rest ≡ c ∷ chars left
first_of_chars c rest left (ds, (scalars, spelled)) parts =
    let (es, same, others) = cons_from_encodes ds left c (spelled ∙ parts) in
    let all : all_scalars (c ∷ es) ≡ true = ap all_scalars (sym same) ∙ scalars in
    let (here, more) = both_true (scalar c) (all_scalars es) all in
    ap chars (sym spelled) ∙ chars-encodes ds scalars ∙ same
    ∙ ap (λ (l : List ℕ). c ∷ l) (sym (chars-encodes es more) ∙ ap chars others)

pub one_more_shown : (text rest left before mid after : List ℕ) (count c : ℕ) → AreShown text rest before mid count
    → IsUtf8 rest → rest ≡ encode_utf8 c ++ left → after ≡ mid ++ shown_character c
    → AreShown text left before after (count + 1)
one_more_shown text rest left before mid after count c s utf8 parts put =
    let next : chars rest ≡ c ∷ chars left = first_of_chars c rest left utf8 parts in
    record {
      done = s.done ++ c ∷ [];
      parts = s.parts ∙ ap (λ (l : List ℕ). s.done ++ l) next ∙ sym (append_assoc s.done (c ∷ []) (chars left));
      len = length-append s.done (c ∷ []) ∙ ap (λ n. n + 1) s.len;
      put = put ∙ ap (λ (l : List ℕ). l ++ shown_character c) s.put
          ∙ append_assoc before (flat_map shown_character s.done) (shown_character c)
          ∙ ap (λ (l : List ℕ). before ++ (flat_map shown_character s.done ++ l))
          (sym (append-nil (shown_character c)))
          ∙ ap (λ (l : List ℕ). before ++ l) (sym (flat_map-append shown_character s.done (c ∷ [])));
    }

-- plain bytes are the characters that they spell, and are shown as they are
run_of_plain : (n : ℕ) (bytes : List ℕ) → list_all is_shown_plainly (take n bytes) ≡ true
    → (flat_map shown_character (take n bytes) ≡ take n bytes) × (chars bytes ≡ take n bytes ++ chars (drop n bytes))
run_of_plain zero bytes all = (refl, refl)
run_of_plain (suc n) [] all = (refl, refl)
run_of_plain (suc n) (byte ∷ bytes) all =
    let (here, more) = both_true (is_shown_plainly byte) (list_all is_shown_plainly (take n bytes)) all in
    let (shown, parts) = run_of_plain n bytes more in (
      ap₂ (λ (a b : List ℕ). a ++ b) (plain_is_shown byte here) shown,
      chars_step byte bytes (plain_is_small byte here) ∙ ap (λ (l : List ℕ). byte ∷ l) parts,
    )

run_put : (text left rest before mid after : List ℕ) (count n : ℕ) → AreShown text left before mid count
    → n ≤ length left → list_all is_shown_plainly (take n left) ≡ true → rest ≡ drop n left
    → after ≡ mid ++ take n left → AreShown text rest before after (count + n)
run_put text left rest before mid after count n s within all is put =
    let (shown, parts) = run_of_plain n left all in
    record {
      done = s.done ++ take n left;
      parts = s.parts ∙ ap (λ (l : List ℕ). s.done ++ l) (parts ∙ ap (λ (l : List ℕ). take n left ++ chars l) (sym is))
          ∙ sym (append_assoc s.done (take n left) (chars rest));
      len = length-append s.done (take n left) ∙ ap₂ (λ (a b : ℕ). a + b) s.len (length-take-le n left within);
      put = put ∙ ap (λ (l : List ℕ). l ++ take n left) s.put
          ∙ append_assoc before (flat_map shown_character s.done) (take n left)
          ∙ ap (λ (l : List ℕ). before ++ (flat_map shown_character s.done ++ l)) (sym shown)
          ∙ ap (λ (l : List ℕ). before ++ l) (sym (flat_map-append shown_character s.done (take n left)));
    }

-- the same, where the bytes are those of what is left
pub run_shown : (text left bytes rest before mid after : List ℕ) (count n : ℕ) → AreShown text left before mid count
    → bytes ≡ left → n ≤ length bytes → list_all is_shown_plainly (take n bytes) ≡ true → rest ≡ drop n left
    → after ≡ mid ++ take n bytes → AreShown text rest before after (count + n)
run_shown text left bytes rest before mid after count n s same within all is put =
    run_put text left rest before mid after count n s (subst (λ (l : List ℕ). n ≤ length l) same within)
    (ap (λ (l : List ℕ). list_all is_shown_plainly (take n l)) (sym same) ∙ all) is
    (put ∙ ap (λ (l : List ℕ). mid ++ take n l) same)

-- a text may be cut behind plain bytes
behind_plain : (n : ℕ) (bytes : List ℕ) → IsUtf8 bytes → n ≤ length bytes
    → list_all is_shown_plainly (take n bytes) ≡ true → IsCharBoundary bytes n
behind_plain zero bytes utf8 within all = IsCharBoundary-start bytes utf8
behind_plain (suc n) bytes utf8 within all =
    let next : n + 1 ≡ suc n = omega arith in
    let last : list_all is_shown_plainly (take (n + 1) bytes) ≡ true =
    ap (λ (k : ℕ). list_all is_shown_plainly (take k bytes)) next ∙ all in
    let (before, here) = both_true (list_all is_shown_plainly (take n bytes)) (is_shown_plainly (get_or bytes n 0))
    (sym (list_all_more is_shown_plainly bytes n 0 (omega (arith, within))) ∙ last) in
    subst (IsCharBoundary bytes) next
    (IsCharBoundary-after_ascii bytes n utf8 (omega (arith, within)) (plain_is_small (get_or bytes n 0) here))

-- the same, where the bytes are those of the text
pub cut_behind_plain : (n : ℕ) (bytes left : List ℕ) → IsUtf8 left → bytes ≡ left → n ≤ length bytes
    → list_all is_shown_plainly (take n bytes) ≡ true → IsCharBoundary left n
cut_behind_plain n bytes left utf8 same within all =
    behind_plain n left utf8 (subst (λ (l : List ℕ). n ≤ length l) same within)
    (ap (λ (l : List ℕ). list_all is_shown_plainly (take n l)) (sym same) ∙ all)

-- with the end all is put, where the first of these are those so far
all_shown : (text line before mid after done left : List ℕ) (more : Bool) → before ≡ line ++ codes "\""
    → chars text ≡ done ++ left → mid ≡ before ++ flat_map shown_character done → after ≡ mid ++ quoted_end more
    → take 64 (done ++ left) ≡ done → more ≡ nat_lt 64 (length (done ++ left))
    → after ≡ line ++ quoted_word (chars text)
unfolding quoted_word
all_shown text line before mid after done left more begun parts put end front count =
    let shown = flat_map shown_character done in
    end ∙ ap (λ (l : List ℕ). l ++ quoted_end more) (put ∙ ap (λ (l : List ℕ). l ++ shown) begun)
    ∙ append_assoc (line ++ codes "\"") shown (quoted_end more)
    ∙ append_assoc line (codes "\"") (shown ++ quoted_end more)
    ∙ ap₂ (λ (l : List ℕ) (b : Bool). line ++ (codes "\"" ++ (flat_map shown_character l ++ quoted_end b)))
    (sym front) count
    ∙ ap (λ (l : List ℕ). line ++ quoted_word l) (sym parts)

-- fewer characters than are shown at most
pub few_shown : (text rest line before mid after : List ℕ) (count : ℕ) → before ≡ line ++ codes "\""
    → AreShown text rest before mid count → count < 64 → length rest ≡ 0 → after ≡ mid ++ quoted_end false
    → after ≡ line ++ quoted_word (chars text)
few_shown text rest line before mid after count begun s few none end =
    let size : length (s.done ++ []) ≤ 64 = omega (arith, few, s.len, length-append s.done []) in
    let nothing : chars rest ≡ [] = ap chars (nil_from_length rest none) ∙ chars-nil in
    all_shown text line before mid after s.done [] false begun (s.parts ∙ ap (λ (l : List ℕ). s.done ++ l) nothing)
    s.put end (take_all 64 (s.done ++ []) size ∙ append-nil s.done) (grind (size, arith, nat_tests))

-- a character is left where a byte is
some_left : (rest : List ℕ) → IsUtf8 rest → not (length rest == 0) ≡ nat_lt 0 (length (chars rest))
some_left [] utf8 = sym (ap (λ (l : List ℕ). nat_lt 0 (length l)) chars-nil)
some_left (byte ∷ bytes) ([], (scalars, spelled)) = absurd cc
some_left (byte ∷ bytes) (c ∷ cs, (scalars, spelled)) =
    is_some (length bytes) ∙ sym (ap (λ (l : List ℕ). nat_lt 0 (length l))
    (ap chars (sym spelled) ∙ chars-encodes (c ∷ cs) scalars) ∙ some_follow (length cs))
  where
    is_some : (n : ℕ) → not (suc n == 0) ≡ true
    is_some n = grind (arith, nat_tests)

-- as many as are shown at most, and perhaps more
pub most_are_shown : (text rest line before mid after : List ℕ) (none : Bool) (count : ℕ) → count ≡ 64
    → before ≡ line ++ codes "\"" → AreShown text rest before mid count → IsUtf8 rest → none ≡ (length rest == 0)
    → after ≡ mid ++ quoted_end (not none) → after ≡ line ++ quoted_word (chars text)
most_are_shown text rest line before mid after none count whole begun s utf8 is end =
    let some : nat_lt 0 (length (chars rest)) ≡ nat_lt 64 (length (s.done ++ chars rest)) =
    grind (length-append s.done (chars rest), s.len, whole, arith, nat_tests) in
    all_shown text line before mid after s.done (chars rest) (not none) begun s.parts s.put end
    (take_at s.done (chars rest) 64 (s.len ∙ whole)) (ap not is ∙ some_left rest utf8 ∙ some)
