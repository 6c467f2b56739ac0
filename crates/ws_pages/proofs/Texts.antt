-- What the input has on a page begins and ends nothing there.
use Rattle.std.proofs.Common.{◌≡◌, ◌≤◌, ◌+◌, ◌/◌, ◌%◌, ℕ, ◌==◌, Bool, true, false, ◌||◌, All, List, [], ◌∷◌}
use Rattle.std.proofs.Common.{codes, cond, flat_map, nat_lt, refl, arith, if◌then◌else◌}
use Rattle.std.proofs.lemmas.Bool.Decides.{nat_tests}
use Rattle.std.proofs.lemmas.List.Elements.{All-append, All-from_recursion, All-nil}
use Rattle.std.specs.Char.{encode_utf8, is_control}
use Rattle.std.specs.Str.{chars, is_utf8}
use Rattle.ws_formats.specs.QuotedText.{is_invisible}
use Rattle.ws_pages.specs.PageText.{IsTextOnPage, byte_on_page, character_on_page, on_page}

-- a byte that is none of the marks
other : (byte : ℕ) → (byte == 60) ≡ false → (byte == 62) ≡ false → (byte == 34) ≡ false → (byte == 39) ≡ false
    → IsTextOnPage byte
other byte less greater quotation apostrophe = (
  λ e. absurd (is_less e),
  λ e. absurd (is_greater e),
  λ e. absurd (is_quotation e),
  λ e. absurd (is_apostrophe e),
)
  where
    is_less : byte ≡ 60 → ⊥
    is_less e = grind (arith, nat_tests)

    is_greater : byte ≡ 62 → ⊥
    is_greater e = grind (arith, nat_tests)

    is_quotation : byte ≡ 34 → ⊥
    is_quotation e = grind (arith, nat_tests)

    is_apostrophe : byte ≡ 39 → ⊥
    is_apostrophe e = grind (arith, nat_tests)

either : (b : Bool) (xs ys : List ℕ) → (b ≡ true → All IsTextOnPage xs) → (b ≡ false → All IsTextOnPage ys)
    → All IsTextOnPage (if b then xs else ys)
either true xs ys f g = f refl
either false xs ys f g = g refl

amp : All IsTextOnPage (codes "&amp;")
amp = All-from_recursion IsTextOnPage (codes "&amp;") (
  other 38 refl refl refl refl,
  (
    other 97 refl refl refl refl,
    (other 109 refl refl refl refl, (other 112 refl refl refl refl, (other 59 refl refl refl refl, tt))),
  ),
)

lt : All IsTextOnPage (codes "&lt;")
lt = All-from_recursion IsTextOnPage (codes "&lt;") (
  other 38 refl refl refl refl,
  (
    other 108 refl refl refl refl,
    (other 116 refl refl refl refl, (other 59 refl refl refl refl, tt)),
  ),
)

gt : All IsTextOnPage (codes "&gt;")
gt = All-from_recursion IsTextOnPage (codes "&gt;") (
  other 38 refl refl refl refl,
  (
    other 103 refl refl refl refl,
    (other 116 refl refl refl refl, (other 59 refl refl refl refl, tt)),
  ),
)

quot : All IsTextOnPage (codes "&quot;")
quot = All-from_recursion IsTextOnPage (codes "&quot;") (
  other 38 refl refl refl refl,
  (
    other 113 refl refl refl refl,
    (
      other 117 refl refl refl refl,
      (other 111 refl refl refl refl, (other 116 refl refl refl refl, (other 59 refl refl refl refl, tt))),
    ),
  ),
)

apos : All IsTextOnPage (codes "&#39;")
apos = All-from_recursion IsTextOnPage (codes "&#39;") (
  other 38 refl refl refl refl,
  (
    other 35 refl refl refl refl,
    (other 51 refl refl refl refl, (other 57 refl refl refl refl, (other 59 refl refl refl refl, tt))),
  ),
)

replaced : All IsTextOnPage (codes "&#xFFFD;")
replaced = All-from_recursion IsTextOnPage (codes "&#xFFFD;") (
  other 38 refl refl refl refl,
  (
    other 35 refl refl refl refl,
    (
      other 120 refl refl refl refl,
      (
        other 70 refl refl refl refl,
        (
          other 70 refl refl refl refl,
          (
            other 70 refl refl refl refl,
            (other 68 refl refl refl refl, (other 59 refl refl refl refl, tt)),
          ),
        ),
      ),
    ),
  ),
)

-- a byte above ASCII is none of the marks
above : (byte : ℕ) → 128 ≤ byte → IsTextOnPage byte
above byte high = (
  λ e. absurd (omega (arith, high, e)),
  λ e. absurd (omega (arith, high, e)),
  λ e. absurd (omega (arith, high, e)),
  λ e. absurd (omega (arith, high, e)),
)

-- the bytes of a character that is none of the marks
encoded : (c : ℕ) → IsTextOnPage c → All IsTextOnPage (encode_utf8 c)
unfolding encode_utf8
encoded c none = cases (nat_lt c 128) (nat_lt c 2048) (nat_lt c 65536)
  where
    next : (bits : ℕ) → IsTextOnPage (128 + bits % 64)
    next bits = above (128 + bits % 64) (omega arith)

    cases : (a b d : Bool) → All IsTextOnPage (cond a (c ∷ []) (cond b ((192 + c / 64) ∷ (128 + c % 64) ∷ [])
        (cond d ((224 + c / 4096) ∷ (128 + (c / 64) % 64) ∷ (128 + c % 64) ∷ [])
        ((240 + c / 262144) ∷ (128 + (c / 4096) % 64) ∷ (128 + (c / 64) % 64) ∷ (128 + c % 64) ∷ []))))
    cases true b d = All-from_recursion IsTextOnPage (c ∷ []) (none, tt)
    cases false true d =
        All-from_recursion IsTextOnPage ((192 + c / 64) ∷ (128 + c % 64) ∷ [])
        (above (192 + c / 64) (omega arith), (next c, tt))
    cases false false true =
        All-from_recursion IsTextOnPage ((224 + c / 4096) ∷ (128 + (c / 64) % 64) ∷ (128 + c % 64) ∷ [])
        (above (224 + c / 4096) (omega arith), (next (c / 64), (next c, tt)))
    cases false false false =
        All-from_recursion IsTextOnPage
        ((240 + c / 262144) ∷ (128 + (c / 4096) % 64) ∷ (128 + (c / 64) % 64) ∷ (128 + c % 64) ∷ [])
        (above (240 + c / 262144) (omega arith), (next (c / 4096), (next (c / 64), (next c, tt))))

character_text : (c : ℕ) → All IsTextOnPage (character_on_page c)
character_text c =
    either (c == 38) _ _ (λ _. amp) (λ _.
    either (c == 60) _ _ (λ _. lt) (λ less.
    either (c == 62) _ _ (λ _. gt) (λ greater.
    either (c == 34) _ _ (λ _. quot) (λ quotation.
    either (c == 39) _ _ (λ _. apos) (λ apostrophe.
    either (c == 10) _ _
    (λ _. All-from_recursion IsTextOnPage (c ∷ []) (other c less greater quotation apostrophe, tt))
    (λ _. either (is_control c || is_invisible c) _ _ (λ _. replaced)
    (λ _. encoded c (other c less greater quotation apostrophe))))))))

byte_text : (byte : ℕ) → All IsTextOnPage (byte_on_page byte)
byte_text byte = either (nat_lt byte 128) _ _ (λ _. character_text byte) (λ _. replaced)

all_text : (part : ℕ → List ℕ) → ((n : ℕ) → All IsTextOnPage (part n)) → (ns : List ℕ)
    → All IsTextOnPage (flat_map part ns)
all_text part each [] = All-nil IsTextOnPage
all_text part each (n ∷ ns) =
    All-append IsTextOnPage (part n) (flat_map part ns) (each n) (all_text part each ns)

pub text_on_page : (bytes : List ℕ) → All IsTextOnPage (on_page bytes)
unfolding on_page
text_on_page bytes =
    either (is_utf8 bytes) _ _ (λ _. all_text character_on_page character_text (chars bytes))
    (λ _. all_text byte_on_page byte_text bytes)
