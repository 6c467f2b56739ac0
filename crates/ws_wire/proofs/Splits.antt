-- A stream splits in one way into things of which none begins another, and in some way where it can be told whether one
-- stands at the front. Both are stated once, over the things and their bytes.
use Rattle.std.proofs.Common.{◌≡◌, ℕ, zero, suc, ◌+◌, ◌<◌, ◌⊎◌, List, [], ◌∷◌, ◌++◌, length, get_or, refl, sym, ap, ◌∙◌, append_assoc, arith, inl, inr, subst}
use Rattle.std.specs.List.{flat_map, AllByRecursion}
use Rattle.std.proofs.lemmas.List.{length-append, get_or-append-add}
use Rattle.std.proofs.lemmas.Grind.{flat_map-append}
use Rattle.ws_wire.specs.Header.{AreBytes}
use Rattle.ws_wire.specs.Stream.{Splits, BeginsNone}

-- no thing begins another
pub record NoneBegins {X : Type 0} (IsOne : X → Type 0) (bytes_of : X → List ℕ) : Type 0 where
  pub same : (f g : X) (x y : List ℕ) → IsOne f → IsOne g → bytes_of f ++ x ≡ bytes_of g ++ y → (f ≡ g) × (x ≡ y)

parts_are_one : {X : Type 0} (IsOne : X → Type 0) (bytes_of : X → List ℕ) → NoneBegins IsOne bytes_of → (xs ys : List X) (a b : List ℕ) → AllByRecursion IsOne xs → AllByRecursion IsOne ys
    → BeginsNone IsOne bytes_of a → BeginsNone IsOne bytes_of b → flat_map bytes_of xs ++ a ≡ flat_map bytes_of ys ++ b → (xs ≡ ys) × (a ≡ b)
parts_are_one IsOne bytes_of one [] [] a b cx cy na nb e = (refl, e)
parts_are_one IsOne bytes_of one [] (y ∷ ys) a b cx cy na nb e = absurd (na y (flat_map bytes_of ys ++ b) cy.0 (e ∙ append_assoc (bytes_of y) (flat_map bytes_of ys) b))
parts_are_one IsOne bytes_of one (x ∷ xs) [] a b cx cy na nb e = absurd (nb x (flat_map bytes_of xs ++ a) cx.0 (sym e ∙ append_assoc (bytes_of x) (flat_map bytes_of xs) a))
parts_are_one IsOne bytes_of one (x ∷ xs) (y ∷ ys) a b cx cy na nb e =
    let s = one.same x y (flat_map bytes_of xs ++ a) (flat_map bytes_of ys ++ b) cx.0 cy.0 (sym (append_assoc (bytes_of x) (flat_map bytes_of xs) a) ∙ e ∙ append_assoc (bytes_of y) (flat_map bytes_of ys) b) in
    let t = parts_are_one IsOne bytes_of one xs ys a b cx.1 cy.1 na nb s.1 in
    (cc, t.1)

-- a stream has one split
pub split_is_one : {X : Type 0} (IsOne : X → Type 0) (bytes_of : X → List ℕ) → NoneBegins IsOne bytes_of → (s : List ℕ) (xs ys : List X) (a b : List ℕ)
    → Splits IsOne bytes_of s xs a → Splits IsOne bytes_of s ys b → (xs ≡ ys) × (a ≡ b)
split_is_one IsOne bytes_of one s xs ys a b p q = parts_are_one IsOne bytes_of one xs ys a b p.each q.each p.left q.left (sym p.whole ∙ q.whole)

-- ---- every stream has one

-- one stands at the front of the bytes
pub record SomeFront {X : Type 0} (IsOne : X → Type 0) (bytes_of : X → List ℕ) (bytes : List ℕ) : Type 0 where
  pub first : X
  pub is_one : IsOne first
  pub more : List ℕ
  pub parts : bytes ≡ bytes_of first ++ more

-- it can be told whether one stands at the front, and each has bytes
pub record IsToldAtFront {X : Type 0} (IsOne : X → Type 0) (bytes_of : X → List ℕ) : Type 0 where
  pub tell : (bytes : List ℕ) → AreBytes bytes → SomeFront IsOne bytes_of bytes ⊎ BeginsNone IsOne bytes_of bytes
  pub some : (x : X) → 0 < length (bytes_of x)

pub record SomeSplit {X : Type 0} (IsOne : X → Type 0) (bytes_of : X → List ℕ) (s : List ℕ) : Type 0 where
  pub frames : List X
  pub rest : List ℕ
  pub split : Splits IsOne bytes_of s frames rest

-- what lies behind a front of bytes are bytes
pub rest_bytes : (bytes front rest : List ℕ) → bytes ≡ front ++ rest → AreBytes bytes → AreBytes rest
rest_bytes bytes front rest e h i = subst (λ n. n < 256) (ap (λ (t : List ℕ). get_or t (length front + i) 0) e ∙ get_or-append-add front rest i 0) (h (length front + i))

split_within : {X : Type 0} (IsOne : X → Type 0) (bytes_of : X → List ℕ) → IsToldAtFront IsOne bytes_of → (n : ℕ) (s : List ℕ) → length s < n → AreBytes s → SomeSplit IsOne bytes_of s
split_within IsOne bytes_of told zero s l h = absurd (omega arith)
split_within IsOne bytes_of told (suc n) s l h =
    elim (told.tell s h) [
      | inr none ↦ record { frames = []; rest = s; split = record { each = tt; whole = refl; left = none } }
      | inl f ↦
          let shorter : length f.more < n = omega (arith, ap (λ (t : List ℕ). length t) f.parts, length-append (bytes_of f.first) f.more, told.some f.first) in
          let next = split_within IsOne bytes_of told n f.more shorter (rest_bytes s (bytes_of f.first) f.more f.parts h) in
          record {
            frames = f.first ∷ next.frames;
            rest = next.rest;
            split = record {
              each = (f.is_one, next.split.each);
              whole = f.parts ∙ ap (λ (t : List ℕ). bytes_of f.first ++ t) next.split.whole ∙ sym (append_assoc (bytes_of f.first) (flat_map bytes_of next.frames) next.rest);
              left = next.split.left;
            };
          }
    ]

pub some_split : {X : Type 0} (IsOne : X → Type 0) (bytes_of : X → List ℕ) → IsToldAtFront IsOne bytes_of → (s : List ℕ) → AreBytes s → SomeSplit IsOne bytes_of s
some_split IsOne bytes_of told s h = split_within IsOne bytes_of told (suc (length s)) s (omega arith) h

-- ---- more bytes

pub all-append : {X : Type 0} (P : X → Type 0) (xs ys : List X) → AllByRecursion P xs → AllByRecursion P ys → AllByRecursion P (xs ++ ys)
all-append P [] ys a b = b
all-append P (x ∷ xs) ys a b = (a.0, all-append P xs ys a.1 b)

-- the things of what was left with more bytes come behind those before
pub split_goes_on : {X : Type 0} (IsOne : X → Type 0) (bytes_of : X → List ℕ) (s u : List ℕ) (xs ys : List X) (a b : List ℕ)
    → Splits IsOne bytes_of s xs a → Splits IsOne bytes_of (a ++ u) ys b → Splits IsOne bytes_of (s ++ u) (xs ++ ys) b
split_goes_on IsOne bytes_of s u xs ys a b p q = record {
  each = all-append IsOne xs ys p.each q.each;
  whole = ap (λ (t : List ℕ). t ++ u) p.whole ∙ append_assoc (flat_map bytes_of xs) a u ∙ ap (λ (t : List ℕ). flat_map bytes_of xs ++ t) q.whole
      ∙ sym (append_assoc (flat_map bytes_of xs) (flat_map bytes_of ys) b) ∙ ap (λ (t : List ℕ). t ++ b) (sym (flat_map-append bytes_of xs ys));
  left = q.left;
}
