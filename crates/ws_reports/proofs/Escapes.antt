-- What is escaped has no tag and no quotation mark in it, and nothing but ASCII characters of XML.
use Rattle.std.proofs.Common.{◌≡◌, ◌≢◌, ℕ, ◌==◌, Bool, true, false, not, ◌&&◌, IsTrue, List, [], ◌∷◌, codes, flat_map, refl, arith, All, if◌then◌else◌}
use Rattle.std.proofs.lemmas.Bool.Decides.{nat_tests}
use Rattle.std.proofs.lemmas.List.Elements.{All-append, All-from_recursion, All-nil, All-weaker}
use Rattle.ws_reports.specs.Escaping.{IsInText, content_byte, escaped, is_plain, quoted, quoted_byte}

-- no tag, no quotation mark, and where that is asked for no line feed
abbrev ends_nothing : Bool → ℕ → Bool
ends_nothing one_line byte = not (byte == 60) && (not (byte == 34) && not (one_line && (byte == 10)))

-- and a character
abbrev is_safe : Bool → ℕ → Bool
is_safe one_line byte = is_plain byte && ends_nothing one_line byte

both : (a b : Bool) → IsTrue a → IsTrue b → IsTrue (a && b)
both true b h k = k
both false b h k = absurd cc

first_of : (a b : Bool) → IsTrue (a && b) → IsTrue a
first_of true b h = refl
first_of false b h = absurd cc

second_of : (a b : Bool) → IsTrue (a && b) → IsTrue b
second_of true b h = h
second_of false b h = absurd cc

abbrev Safe : Bool → List ℕ → Type 0
Safe one_line bytes = All (λ byte. IsTrue (is_safe one_line byte)) bytes

either : (one_line b : Bool) (xs ys : List ℕ) → (b ≡ true → Safe one_line xs) → (b ≡ false → Safe one_line ys)
    → Safe one_line (if b then xs else ys)
either one_line true xs ys f g = f refl
either one_line false xs ys f g = g refl

single : (byte : ℕ) → (byte == 60) ≡ false → (byte == 34) ≡ false → (one_line : Bool)
    → (one_line ≡ true → (byte == 10) ≡ false) → IsTrue (ends_nothing one_line byte)
single byte tag mark false line = grind (arith, nat_tests)
single byte tag mark true line = let feed = line refl in grind (arith, nat_tests)

amp : (o : Bool) → Safe o (codes "&amp;")
amp true = All-from_recursion (λ byte. IsTrue (is_safe true byte)) (codes "&amp;") (refl, (refl, (refl, (refl, (refl, tt)))))
amp false = All-from_recursion (λ byte. IsTrue (is_safe false byte)) (codes "&amp;") (refl, (refl, (refl, (refl, (refl, tt)))))

lt : (o : Bool) → Safe o (codes "&lt;")
lt true = All-from_recursion (λ byte. IsTrue (is_safe true byte)) (codes "&lt;") (refl, (refl, (refl, (refl, tt))))
lt false = All-from_recursion (λ byte. IsTrue (is_safe false byte)) (codes "&lt;") (refl, (refl, (refl, (refl, tt))))

gt : (o : Bool) → Safe o (codes "&gt;")
gt true = All-from_recursion (λ byte. IsTrue (is_safe true byte)) (codes "&gt;") (refl, (refl, (refl, (refl, tt))))
gt false = All-from_recursion (λ byte. IsTrue (is_safe false byte)) (codes "&gt;") (refl, (refl, (refl, (refl, tt))))

quot : (o : Bool) → Safe o (codes "&quot;")
quot true = All-from_recursion (λ byte. IsTrue (is_safe true byte)) (codes "&quot;") (refl, (refl, (refl, (refl, (refl, (refl, tt))))))
quot false = All-from_recursion (λ byte. IsTrue (is_safe false byte)) (codes "&quot;") (refl, (refl, (refl, (refl, (refl, (refl, tt))))))

tab : (o : Bool) → Safe o (codes "&#9;")
tab true = All-from_recursion (λ byte. IsTrue (is_safe true byte)) (codes "&#9;") (refl, (refl, (refl, (refl, tt))))
tab false = All-from_recursion (λ byte. IsTrue (is_safe false byte)) (codes "&#9;") (refl, (refl, (refl, (refl, tt))))

feed : (o : Bool) → Safe o (codes "&#10;")
feed true = All-from_recursion (λ byte. IsTrue (is_safe true byte)) (codes "&#10;") (refl, (refl, (refl, (refl, (refl, tt)))))
feed false = All-from_recursion (λ byte. IsTrue (is_safe false byte)) (codes "&#10;") (refl, (refl, (refl, (refl, (refl, tt)))))

return : (o : Bool) → Safe o (codes "&#13;")
return true = All-from_recursion (λ byte. IsTrue (is_safe true byte)) (codes "&#13;") (refl, (refl, (refl, (refl, (refl, tt)))))
return false = All-from_recursion (λ byte. IsTrue (is_safe false byte)) (codes "&#13;") (refl, (refl, (refl, (refl, (refl, tt)))))

replaced : (o : Bool) → Safe o (codes "&#xFFFD;")
replaced true = All-from_recursion (λ byte. IsTrue (is_safe true byte)) (codes "&#xFFFD;") (refl, (refl, (refl, (refl, (refl, (refl, (refl, (refl, tt))))))))
replaced false = All-from_recursion (λ byte. IsTrue (is_safe false byte)) (codes "&#xFFFD;") (refl, (refl, (refl, (refl, (refl, (refl, (refl, (refl, tt))))))))

content_safe : (o : Bool) (byte : ℕ) → (o ≡ true → (byte == 10) ≡ false) → Safe o (content_byte byte)
content_safe o byte line =
    either o (byte == 38) _ _ (λ _. amp o) (λ _.
    either o (byte == 60) _ _ (λ _. lt o) (λ tag.
    either o (byte == 62) _ _ (λ _. gt o) (λ _.
    either o (byte == 34) _ _ (λ _. quot o) (λ mark.
    either o (byte == 9) _ _ (λ _. tab o) (λ _.
    either o (byte == 13) _ _ (λ _. return o) (λ _.
    either o (is_plain byte) _ _
    (λ plain. All-from_recursion (λ byte. IsTrue (is_safe o byte)) (byte ∷ [])
    (both (is_plain byte) (ends_nothing o byte) plain (single byte tag mark o line), tt))
    (λ _. replaced o)))))))

quoted_safe : (byte : ℕ) → Safe true (quoted_byte byte)
quoted_safe byte = either true (byte == 10) _ _ (λ _. feed true) (λ none. content_safe true byte (λ _. none))

all_safe : (o : Bool) (f : ℕ → List ℕ) → ((byte : ℕ) → Safe o (f byte)) → (bytes : List ℕ) → Safe o (flat_map f bytes)
all_safe o f each [] = All-nil (λ byte. IsTrue (is_safe o byte))
all_safe o f each (byte ∷ bytes) =
    All-append (λ byte. IsTrue (is_safe o byte)) (f byte) (flat_map f bytes) (each byte) (all_safe o f each bytes)

in_text : (o : Bool) (byte : ℕ) → IsTrue (ends_nothing o byte) → IsInText byte
in_text true byte h = (λ e. absurd (tag e), λ e. absurd (mark e))
  where
    tag : byte ≡ 60 → ⊥
    tag e = grind (arith, nat_tests)

    mark : byte ≡ 34 → ⊥
    mark e = grind (arith, nat_tests)
in_text false byte h = (λ e. absurd (tag e), λ e. absurd (mark e))
  where
    tag : byte ≡ 60 → ⊥
    tag e = grind (arith, nat_tests)

    mark : byte ≡ 34 → ⊥
    mark e = grind (arith, nat_tests)

no_feed : (byte : ℕ) → IsTrue (ends_nothing true byte) → byte ≢ 10
no_feed byte h e = grind (arith, nat_tests)

pub escaped_in_text : (bytes : List ℕ) → All IsInText (escaped bytes)
escaped_in_text bytes =
    All-weaker (λ byte. IsTrue (is_safe false byte)) IsInText (λ byte h. in_text false byte (second_of (is_plain byte) (ends_nothing false byte) h))
    (escaped bytes)
    (all_safe false content_byte (λ byte. content_safe false byte (λ wrong. absurd cc)) bytes)

pub quoted_in_text : (bytes : List ℕ) → All IsInText (quoted bytes)
quoted_in_text bytes =
    All-weaker (λ byte. IsTrue (is_safe true byte)) IsInText (λ byte h. in_text true byte (second_of (is_plain byte) (ends_nothing true byte) h))
    (quoted bytes)
    (all_safe true quoted_byte quoted_safe bytes)

pub quoted_one_line : (bytes : List ℕ) → All (λ byte. byte ≢ 10) (quoted bytes)
quoted_one_line bytes =
    All-weaker (λ byte. IsTrue (is_safe true byte)) (λ byte. byte ≢ 10)
    (λ byte h. no_feed byte (second_of (is_plain byte) (ends_nothing true byte) h)) (quoted bytes)
    (all_safe true quoted_byte quoted_safe bytes)

pub escaped_characters : (bytes : List ℕ) → All (λ byte. IsTrue (is_plain byte)) (escaped bytes)
escaped_characters bytes =
    All-weaker (λ byte. IsTrue (is_safe false byte)) (λ byte. IsTrue (is_plain byte))
    (λ byte h. first_of (is_plain byte) (ends_nothing false byte) h) (escaped bytes)
    (all_safe false content_byte (λ byte. content_safe false byte (λ wrong. absurd cc)) bytes)

pub quoted_characters : (bytes : List ℕ) → All (λ byte. IsTrue (is_plain byte)) (quoted bytes)
quoted_characters bytes =
    All-weaker (λ byte. IsTrue (is_safe true byte)) (λ byte. IsTrue (is_plain byte))
    (λ byte h. first_of (is_plain byte) (ends_nothing true byte) h) (quoted bytes)
    (all_safe true quoted_byte quoted_safe bytes)
