-- The words of a capture's line are a line of text, and tell that line alone.
use Rattle.std.proofs.Common.{◌≡◌, ◌∙◌, ℕ, ◌<◌, ◌≤◌, ◌/◌, List, [], ◌∷◌, ◌++◌, length, map, Option, Some, None, ap, ap₂}
use Rattle.std.proofs.Common.{sym, refl, arith, codes, slice_index}
use Rattle.std.proofs.lemmas.List.{append_cancel_left}
use Rattle.std.specs.List.{AllByRecursion}
use Rattle.std.specs.Prelude.{IfSome}
use Rattle.ws_formats.specs.Words.{AreFourBytes, IsHexWord, hex, hex_word}
use Rattle.ws_base.specs.Bytes.{AreBytes}
use Rattle.ws_formats.specs.Lines.{IsLine}
use Rattle.ws_formats.proofs.HexWords.{hex_one, no_shorter}
use Rattle.ws_scripts.specs.declared.transcript.Ended.{Ended}
use Rattle.ws_scripts.specs.declared.transcript.Ended.TheVariants.{Tester, Peer, Broken}
use Rattle.ws_scripts.specs.declared.capture.line.Format.{Format}
use Rattle.ws_scripts.specs.declared.capture.line.Format.TheVariants.{One, Two}
use Rattle.ws_scripts.specs.declared.capture.line.Line.{Line}
use Rattle.ws_scripts.specs.declared.capture.line.Line.TheVariants.{Sent, Got}
use Rattle.ws_scripts.specs.declared.capture.line.CaptureLine.{CaptureLine}
use Rattle.ws_scripts.specs.declared.capture.line.CaptureLine.TheVariants.{First, Key, Begin, Data, End}
use Rattle.ws_scripts.specs.CaptureLines.{AreLineBytes, HasLineBytes, HasWords, IsLineOf, bytes_of, line_words, mark_of}
use Rattle.ws_scripts.specs.InnerCapturing.{IsWithoutBytes}
use Rattle.ws_formats.proofs.LetterLines.{hex_line_by, line_by}

-- ---- lines of text

pub words_are_line : (line : CaptureLine (List ℕ)) → HasWords line → IsLine (line_words line)
words_are_line (First One) h = line_by (codes "wst-capture 1") refl
words_are_line (First Two) h = line_by (codes "wst-capture 2") refl
words_are_line (Key None) h = line_by (codes "key -") refl
words_are_line (Key (Some key)) h = hex_line_by (codes "key ") key refl h.1
words_are_line Begin h = line_by (codes "turn") refl
words_are_line (Data (Sent bytes)) h = hex_line_by (codes "> ") bytes refl h.1
words_are_line (Data (Got bytes)) h = hex_line_by (codes "< ") bytes refl h.1
words_are_line (End Tester) h = line_by (codes "end tester") refl
words_are_line (End Peer) h = line_by (codes "end peer") refl
words_are_line (End Broken) h = line_by (codes "end broken") refl

pub words_are_lines : (lines : List (CaptureLine (List ℕ))) → AllByRecursion HasWords lines
    → AllByRecursion IsLine (map line_words lines)
words_are_lines [] h = tt
words_are_lines (line ∷ lines) h = (words_are_line line h.0, words_are_lines lines h.1)

-- ---- one line

some_hex : (bytes : List ℕ) → 0 < length bytes → hex bytes ≡ hex_word bytes
some_hex [] some = absurd (omega arith)
some_hex (b ∷ bytes) some = refl

same_bytes : (x y : List ℕ) → (0 < length x) × AreBytes x → (0 < length y) × AreBytes y → hex x ≡ hex y → x ≡ y
same_bytes x y h i e = hex_one x y (hex x) (h.1, some_hex x h.0) (i.1, e ∙ some_hex y i.0)

-- a dash spells no key
no_dash : (key : List ℕ) → AreFourBytes key → codes "-" ≡ hex key → ⊥
no_dash key four e =
    let some : 0 < length key = omega (arith, four.0) in
    let less : length key ≤ length (hex key) = no_shorter key (hex key) (four.1, some_hex key some) in
    omega (arith, less, four.0, ap (λ (l : List ℕ). length l) e)

same_key : (a b : Option (List ℕ)) → IfSome a AreFourBytes → IfSome b AreFourBytes
    → line_words (Key a) ≡ line_words (Key b) → a ≡ b
same_key None None h i e = refl
same_key None (Some y) h i e = absurd (no_dash y i (append_cancel_left (codes "key ") (codes "-") (hex y) e))
same_key (Some x) None h i e = absurd (no_dash x h (append_cancel_left (codes "key ") (codes "-") (hex x) (sym e)))
same_key (Some x) (Some y) h i e =
    ap Some
    (same_bytes x y (omega (arith, h.0), h.1) (omega (arith, i.0), i.1)
    (append_cancel_left (codes "key ") (hex x) (hex y) e))

-- a number by which the words of lines differ: a third of their first letter
kind : CaptureLine (List ℕ) → ℕ
kind (First format) = 39
kind (Key key) = 35
kind Begin = 38
kind (Data line) = 20
kind (End end) = 33

first_letter : (line : CaptureLine (List ℕ)) → slice_index (line_words line) 0 / 3 ≡ kind line
unfolding kind
first_letter (First One) = refl
first_letter (First Two) = refl
first_letter (Key None) = refl
first_letter (Key (Some key)) = refl
first_letter Begin = refl
first_letter (Data (Sent bytes)) = refl
first_letter (Data (Got bytes)) = refl
first_letter (End Tester) = refl
first_letter (End Peer) = refl
first_letter (End Broken) = refl

same_kind : (a b : CaptureLine (List ℕ)) → line_words a ≡ line_words b → kind a ≡ kind b
same_kind a b e = sym (first_letter a) ∙ (ap (λ (l : List ℕ). slice_index l 0 / 3) e ∙ first_letter b)

same_data : (a b : Line (List ℕ)) → HasLineBytes a → HasLineBytes b → line_words (Data a) ≡ line_words (Data b) → a ≡ b
same_data (Sent x) (Sent y) h i e = ap Sent (same_bytes x y h i (append_cancel_left (codes "> ") (hex x) (hex y) e))
same_data (Got x) (Got y) h i e = ap Got (same_bytes x y h i (append_cancel_left (codes "< ") (hex x) (hex y) e))
same_data (Sent x) (Got y) h i e = absurd (let wrong : 62 ≡ 60 = ap (λ (l : List ℕ). slice_index l 0) e in omega arith)
same_data (Got x) (Sent y) h i e = absurd (let wrong : 60 ≡ 62 = ap (λ (l : List ℕ). slice_index l 0) e in omega arith)

same_format : (a b : Format) → line_words (First a) ≡ line_words (First b) → a ≡ b
same_format One One e = refl
same_format One Two e = absurd (let wrong : 49 ≡ 50 = ap (λ (l : List ℕ). slice_index l 12) e in omega arith)
same_format Two One e = absurd (let wrong : 50 ≡ 49 = ap (λ (l : List ℕ). slice_index l 12) e in omega arith)
same_format Two Two e = refl

same_end : (a b : Ended) → line_words (End a) ≡ line_words (End b) → a ≡ b
same_end Tester Tester e = refl
same_end Peer Peer e = refl
same_end Broken Broken e = refl
same_end Tester Peer e = absurd (let wrong : 116 ≡ 112 = ap (λ (l : List ℕ). slice_index l 4) e in omega arith)
same_end Tester Broken e = absurd (let wrong : 116 ≡ 98 = ap (λ (l : List ℕ). slice_index l 4) e in omega arith)
same_end Peer Tester e = absurd (let wrong : 112 ≡ 116 = ap (λ (l : List ℕ). slice_index l 4) e in omega arith)
same_end Peer Broken e = absurd (let wrong : 112 ≡ 98 = ap (λ (l : List ℕ). slice_index l 4) e in omega arith)
same_end Broken Tester e = absurd (let wrong : 98 ≡ 116 = ap (λ (l : List ℕ). slice_index l 4) e in omega arith)
same_end Broken Peer e = absurd (let wrong : 98 ≡ 112 = ap (λ (l : List ℕ). slice_index l 4) e in omega arith)

pub same_line : (a b : CaptureLine (List ℕ)) → HasWords a → HasWords b → line_words a ≡ line_words b → a ≡ b
unfolding kind
same_line (First a) (First b) h i e = ap First (same_format a b e)
same_line (Key a) (Key b) h i e = ap Key (same_key a b h i e)
same_line Begin Begin h i e = refl
same_line (Data a) (Data b) h i e = ap Data (same_data a b h i e)
same_line (End a) (End b) h i e = ap End (same_end a b e)
same_line a b h i e = let wrong : kind a ≡ kind b = same_kind a b e in absurd (omega arith)

pub same_lines_told : (xs ys : List (CaptureLine (List ℕ))) → AllByRecursion HasWords xs → AllByRecursion HasWords ys
    → map line_words xs ≡ map line_words ys → xs ≡ ys
same_lines_told [] [] h i e = refl
same_lines_told [] (y ∷ ys) h i e = absurd cc
same_lines_told (x ∷ xs) [] h i e = absurd cc
same_lines_told (x ∷ xs) (y ∷ ys) h i e =
    let head : line_words x ≡ line_words y = cc in
    let tail : map line_words xs ≡ map line_words ys = cc in
    ap₂ (λ (z : CaptureLine (List ℕ)) (zs : List (CaptureLine (List ℕ))). z ∷ zs) (same_line x y h.0 i.0 head)
    (same_lines_told xs ys h.1 i.1 tail)

-- ---- the bytes of a line

pub hex_of_bytes : (bytes word : List ℕ) → AreLineBytes bytes word → IsHexWord bytes word
hex_of_bytes bytes word h = (h.are_bytes, h.spelled ∙ some_hex bytes h.some)

-- a dash spells no bytes of a line
pub dash_is_none : (none bytes word : List ℕ) → length none ≡ 0 → IsHexWord none word → AreLineBytes bytes word → ⊥
dash_is_none none bytes word len h g =
    let same : none ≡ bytes = hex_one none bytes word h (hex_of_bytes bytes word g) in
    omega (arith, len, g.some, ap (λ (l : List ℕ). length l) same)

-- what is none of the lines without bytes, tells no key and has no bytes is no line
pub no_line : (words : List ℕ) → ((line : CaptureLine (List ℕ)) → IsWithoutBytes line × (words ≡ line_words line) → ⊥)
    → ((key : List ℕ) → AreFourBytes key × (words ≡ codes "key " ++ hex key) → ⊥)
    → ((line : Line (List ℕ)) → HasLineBytes line × (words ≡ mark_of line ∷ 32 ∷ hex (bytes_of line)) → ⊥)
    → (line : CaptureLine (List ℕ)) → IsLineOf line words → ⊥
no_line words plain key data_line (First format) h = plain (First format) (tt, h.1)
no_line words plain key data_line (Key None) h = plain (Key None) (tt, h.1)
no_line words plain key data_line (Key (Some own)) h = key own h
no_line words plain key data_line Begin h = plain Begin (tt, h.1)
no_line words plain key data_line (Data (Sent bytes)) h = data_line (Sent bytes) h
no_line words plain key data_line (Data (Got bytes)) h = data_line (Got bytes) h
no_line words plain key data_line (End end) h = plain (End end) (tt, h.1)

-- what has neither bytes nor a key has words
pub plain_has : (line : CaptureLine (List ℕ)) → IsWithoutBytes line → HasWords line
plain_has (First format) h = tt
plain_has (Key None) h = tt
plain_has (Key (Some key)) h = absurd h
plain_has Begin h = tt
plain_has (Data line) h = absurd h
plain_has (End end) h = tt

pub data_line_is : (line : Line (List ℕ)) (words : List ℕ)
    → HasLineBytes line × (words ≡ mark_of line ∷ 32 ∷ hex (bytes_of line)) → IsLineOf (Data line) words
data_line_is (Sent bytes) words h = h
data_line_is (Got bytes) words h = h
