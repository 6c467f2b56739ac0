-- How many bytes a text still wants, by its unfinished character, and that a text is made of bytes.
use Rattle.std.proofs.Common.{◌≡◌, ℕ, zero, suc, ◌<◌, ◌≤◌, List, [], ◌∷◌, ◌++◌, length, get_or, refl, sym}
use Rattle.std.proofs.Common.{arith, subst}
use Rattle.std.specs.List.{flat_map}
use Rattle.std.specs.Prelude.{All}
use Rattle.std.proofs.lemmas.List.Elements.{All-head, All-tail}
use Rattle.ws_text.specs.Text.{IsText, char_bytes, IsScalarValue, HasUnfinished}
use Rattle.ws_text.specs.Stream.{IsWanted}
use Rattle.ws_text.proofs.Characters.{Shape, shape_1, shape_2, shape_3, shape_4, shape_of, IsLater, IsSecond}
use Rattle.ws_text.proofs.Characters.{character_2, character_3, character_4}
use Rattle.ws_text.proofs.UnfinishedCharacters.{least_later, least_second}
use Rattle.ws_text.proofs.Texts.{no_text, text_of_character, text_by_unfinished}

-- what the unfinished character wants the text does
pub wanted_by_unfinished : (text tail : List ℕ) (n : ℕ) → HasUnfinished text tail → IsWanted tail n → IsWanted text n
wanted_by_unfinished text tail n u w = record {
  least = λ more t. w.least more ((text_by_unfinished text tail more u).0 t);
  enough = (w.enough.0, w.enough.1, (text_by_unfinished text tail w.enough.0 u).1 w.enough.2);
}

-- ---- a text begins with a character

shape_in : (cs : List ℕ) (a : ℕ) (more : List ℕ) → All IsScalarValue cs → a ∷ more ≡ flat_map char_bytes cs
    → (bytes : List ℕ) × Shape bytes (a ∷ more)
shape_in [] a more s e = absurd cc
shape_in (c ∷ cs) a more s e = (
  char_bytes c,
  subst (λ (l : List ℕ). Shape (char_bytes c) l) (sym e)
      (shape_of c (flat_map char_bytes cs) (All-head IsScalarValue c cs s)),
)

text_shape : (a : ℕ) (more : List ℕ) → IsText (a ∷ more) → (bytes : List ℕ) × Shape bytes (a ∷ more)
text_shape a more t = shape_in t.characters a more t.scalar t.spelled

one_follows : {bytes : List ℕ} (a : ℕ) (more : List ℕ) → 194 ≤ a → Shape bytes (a ∷ more) → 1 ≤ length more
one_follows a more h (shape_1 k) = absurd (omega arith)
one_follows a more h (shape_2 l u x) = omega arith
one_follows a more h (shape_3 l u s x) = omega arith
one_follows a more h (shape_4 l u s x y) = omega arith

two_follow : {bytes : List ℕ} (a : ℕ) (more : List ℕ) → 224 ≤ a → Shape bytes (a ∷ more) → 2 ≤ length more
two_follow a more h (shape_1 k) = absurd (omega arith)
two_follow a more h (shape_2 l u x) = absurd (omega arith)
two_follow a more h (shape_3 l u s x) = omega arith
two_follow a more h (shape_4 l u s x y) = omega arith

three_follow : {bytes : List ℕ} (a : ℕ) (more : List ℕ) → 240 ≤ a → Shape bytes (a ∷ more) → 3 ≤ length more
three_follow a more h (shape_1 k) = absurd (omega arith)
three_follow a more h (shape_2 l u x) = absurd (omega arith)
three_follow a more h (shape_3 l u s x) = absurd (omega arith)
three_follow a more h (shape_4 l u s x y) = omega arith

-- ---- what each front of a character wants

pub nothing_wanted : IsWanted [] 0
nothing_wanted = record { least = λ more t. omega arith; enough = ([], refl, no_text) }

pub one_of_two : (a : ℕ) → 194 ≤ a → a ≤ 223 → IsWanted (a ∷ []) 1
one_of_two a low high = record {
  least = λ more t. one_follows a more low (text_shape a more t).1;
  enough = (128 ∷ [], refl, text_of_character _ (a ∷ 128 ∷ []) (character_2 a 128 low high least_later));
}

pub two_of_three : (a : ℕ) → 224 ≤ a → a ≤ 239 → IsWanted (a ∷ []) 2
two_of_three a low high =
    let s = least_second a in
    record {
      least = λ more t. two_follow a more low (text_shape a more t).1;
      enough = (
        s.0 ∷ 128 ∷ [],
        refl,
        text_of_character _ (a ∷ s.0 ∷ 128 ∷ [])
            (character_3 a s.0 128 low high s.1 least_later),
      );
    }

pub three_of_four : (a : ℕ) → 240 ≤ a → a ≤ 244 → IsWanted (a ∷ []) 3
three_of_four a low high =
    let s = least_second a in
    record {
      least = λ more t. three_follow a more low (text_shape a more t).1;
      enough = (
        s.0 ∷ 128 ∷ 128 ∷ [],
        refl,
        text_of_character _ (a ∷ s.0 ∷ 128 ∷ 128 ∷ [])
            (character_4 a s.0 128 128 low high s.1 least_later least_later),
      );
    }

pub one_of_three : (a b : ℕ) → 224 ≤ a → a ≤ 239 → IsSecond a b → IsWanted (a ∷ b ∷ []) 1
one_of_three a b low high s = record {
  least = λ more t. let two : 2 ≤ length (b ∷ more) = two_follow a (b ∷ more) low (text_shape a (b ∷ more) t).1 in omega
      arith;
  enough = (128 ∷ [], refl, text_of_character _ (a ∷ b ∷ 128 ∷ []) (character_3 a b 128 low high s least_later));
}

pub two_of_four : (a b : ℕ) → 240 ≤ a → a ≤ 244 → IsSecond a b → IsWanted (a ∷ b ∷ []) 2
two_of_four a b low high s = record {
  least = λ more t. let three : 3 ≤ length (b ∷ more) = three_follow a (b ∷ more) low (text_shape a (b ∷ more) t).1 in
      omega arith;
  enough = (
    128 ∷ 128 ∷ [],
    refl,
    text_of_character _ (a ∷ b ∷ 128 ∷ 128 ∷ [])
        (character_4 a b 128 128 low high s least_later least_later),
  );
}

pub one_of_four : (a b d : ℕ) → 240 ≤ a → a ≤ 244 → IsSecond a b → IsLater d → IsWanted (a ∷ b ∷ d ∷ []) 1
one_of_four a b d low high s l = record {
  least = λ more t. let three : 3 ≤ length (b ∷ d ∷ more) = three_follow a (b ∷ d ∷ more) low
      (text_shape a (b ∷ d ∷ more) t).1 in omega arith;
  enough = (
    128 ∷ [],
    refl,
    text_of_character _ (a ∷ b ∷ d ∷ 128 ∷ [])
        (character_4 a b d 128 low high s l least_later),
  );
}

-- ---- a text is made of bytes

one_more_byte : (b : ℕ) (bytes : List ℕ) → b < 256 → ((i : ℕ) → get_or bytes i 0 < 256) → (i : ℕ)
    → get_or (b ∷ bytes) i 0 < 256
one_more_byte b bytes h rest zero = h
one_more_byte b bytes h rest (suc i) = rest i

no_more_bytes : (i : ℕ) → get_or {A = ℕ} [] i 0 < 256
no_more_bytes i = omega arith

joined_bytes : (front back : List ℕ) → ((i : ℕ) → get_or front i 0 < 256) → ((i : ℕ) → get_or back i 0 < 256) → (i : ℕ)
    → get_or (front ++ back) i 0 < 256
joined_bytes [] back a b = b
joined_bytes (x ∷ front) back a b = one_more_byte x (front ++ back) (a 0) (joined_bytes front back (λ i. a (suc i)) b)

shape_bytes : {bytes all : List ℕ} → Shape bytes all → (i : ℕ) → get_or bytes i 0 < 256
shape_bytes (shape_1 {a} low) =
    let first : a < 256 = omega arith in
    one_more_byte a [] first no_more_bytes
shape_bytes (shape_2 {a} {b} l u x) =
    let first : a < 256 = omega arith in
    let second : b < 256 = omega (arith, x.high) in
    one_more_byte a (b ∷ []) first (one_more_byte b [] second no_more_bytes)
shape_bytes (shape_3 {a} {b} {d} l u s x) =
    let first : a < 256 = omega arith in
    let second : b < 256 = omega (arith, s.later.high) in
    let third : d < 256 = omega (arith, x.high) in
    one_more_byte a (b ∷ d ∷ []) first (one_more_byte b (d ∷ []) second (one_more_byte d [] third no_more_bytes))
shape_bytes (shape_4 {a} {b} {d} {e} l u s x y) =
    let first : a < 256 = omega arith in
    let second : b < 256 = omega (arith, s.later.high) in
    let third : d < 256 = omega (arith, x.high) in
    let fourth : e < 256 = omega (arith, y.high) in
    one_more_byte a (b ∷ d ∷ e ∷ []) first (one_more_byte b (d ∷ e ∷ []) second
    (one_more_byte d (e ∷ []) third (one_more_byte e [] fourth no_more_bytes)))

spelled_bytes : (cs : List ℕ) → All IsScalarValue cs → (i : ℕ) → get_or (flat_map char_bytes cs) i 0 < 256
spelled_bytes [] s = no_more_bytes
spelled_bytes (c ∷ cs) s = joined_bytes (char_bytes c) (flat_map char_bytes cs)
    (shape_bytes (shape_of c [] (All-head IsScalarValue c cs s))) (spelled_bytes cs (All-tail IsScalarValue c cs s))

pub text_bytes : (bytes : List ℕ) → IsText bytes → (i : ℕ) → get_or bytes i 0 < 256
text_bytes bytes t i = subst (λ (l : List ℕ). get_or l i 0 < 256) (sym t.spelled)
    (spelled_bytes t.characters t.scalar i)
