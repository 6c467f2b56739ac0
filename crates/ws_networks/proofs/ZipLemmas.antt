-- Two lists side by side: what is at a place of both.
use Rattle.std.proofs.Common.{◌≡◌, ◌∙◌, ℕ, zero, suc, List, [], ◌∷◌, length, slice_set, Some, refl, sym, ap, arith}
use Rattle.std.specs.List.{slice_get}
use Rattle.std.proofs.lemmas.Option.{none-some, same_Some}
use Rattle.ws_networks.specs.NetworkLoops.{zip_by}

module _ {X Y Z : Type 0} (f : X → Y → Z) where
  pub zip_get : (xs : List X) (ys : List Y) (i : ℕ) (x : X) (y : Y) → slice_get xs i ≡ Some x → slice_get ys i ≡ Some y
      → slice_get (zip_by f xs ys) i ≡ Some (f x y)
  zip_get [] ys i x y e h = absurd (none-some x e)
  zip_get (a ∷ xs) [] i x y e h = absurd (none-some y h)
  zip_get (a ∷ xs) (b ∷ ys) zero x y e h = ap (λ (z : X). Some (f z b)) (same_Some a x e)
      ∙ ap (λ (z : Y). Some (f x z)) (same_Some b y h)
  zip_get (a ∷ xs) (b ∷ ys) (suc i) x y e h = zip_get xs ys i x y e h

  pub zip_of : (xs : List X) (ys : List Y) (i : ℕ) (z : Z) → slice_get (zip_by f xs ys) i ≡ Some z
      → (x : X) × (y : Y) × (slice_get xs i ≡ Some x) × (slice_get ys i ≡ Some y) × (z ≡ f x y)
  zip_of [] ys i z e = absurd (none-some z e)
  zip_of (a ∷ xs) [] i z e = absurd (none-some z e)
  zip_of (a ∷ xs) (b ∷ ys) zero z e = (a, b, refl, refl, sym (same_Some (f a b) z e))
  zip_of (a ∷ xs) (b ∷ ys) (suc i) z e = zip_of xs ys i z e

  pub zip_set : (xs : List X) (ys : List Y) (i : ℕ) (x : X) (y : Y)
      → zip_by f (slice_set xs i x) (slice_set ys i y) ≡ slice_set (zip_by f xs ys) i (f x y)
  zip_set [] ys i x y = refl
  zip_set (a ∷ xs) [] zero x y = refl
  zip_set (a ∷ xs) [] (suc i) x y = refl
  zip_set (a ∷ xs) (b ∷ ys) zero x y = refl
  zip_set (a ∷ xs) (b ∷ ys) (suc i) x y = ap (λ (l : List Z). f a b ∷ l) (zip_set xs ys i x y)

  pub zip_len : (xs : List X) (ys : List Y) → length ys ≡ length xs → length (zip_by f xs ys) ≡ length xs
  zip_len [] ys e = refl
  zip_len (a ∷ xs) [] e = absurd (omega (arith, e))
  zip_len (a ∷ xs) (b ∷ ys) e = ap (λ (n : ℕ). suc n) (zip_len xs ys (omega (arith, e)))

  pub zip_alike : (xs us : List X) (ys vs : List Y) → length us ≡ length xs → length vs ≡ length ys
      → length (zip_by f us vs) ≡ length (zip_by f xs ys)
  zip_alike [] [] ys vs e h = refl
  zip_alike [] (u ∷ us) ys vs e h = absurd (omega (arith, e))
  zip_alike (x ∷ xs) [] ys vs e h = absurd (omega (arith, e))
  zip_alike (x ∷ xs) (u ∷ us) [] [] e h = refl
  zip_alike (x ∷ xs) (u ∷ us) [] (v ∷ vs) e h = absurd (omega (arith, h))
  zip_alike (x ∷ xs) (u ∷ us) (y ∷ ys) [] e h = absurd (omega (arith, h))
  zip_alike (x ∷ xs) (u ∷ us) (y ∷ ys) (v ∷ vs) e h =
      ap (λ (n : ℕ). suc n) (zip_alike xs us ys vs (omega (arith, e)) (omega (arith, h)))
