-- A vector whose mask of high bytes is empty is ASCII, and no other is.
use Rattle.std.proofs.Common.{◌≡◌, ◌%◌, ◌^◌, ◌<◌, ◌≤◌, ℕ, Bool, true, false, cond, leb, List, [], ◌∷◌, map, length, get_or, replicate, zero, suc, refl, sym, ap, ◌∙◌, arith, eqb, eqb-true, leb-false, subst}
use Rattle.std.specs.Prelude.{IsTrue}
use Rattle.std.proofs.lemmas.List.{length-map}
use Rattle.std.proofs.lemmas.Simd.{length-zip2, length-replicate, mask_l-mod}
use Rattle.std.specs.Simd.Lanes.{zip2, mask_l, top}
use Rattle.simdutf8.proofs.Lanes.{at_least}
use Rattle.ws_text.proofs.whole.is_ascii.Goals as goal

-- a lane's bit of the mask is set where the byte is 128 or more
low_byte : (x : ℕ) (test : Bool) → leb 128 x ≡ test → ◌≡◌ {A = ℕ} (cond (top 7 (cond test 255 0)) 1 0) 0 → x < 128
low_byte x true is unset = absurd (omega arith)
low_byte x false is unset = leb-false _ _ is

low_bytes : (xs : List ℕ) → mask_l (map (top 7) (zip2 at_least (replicate (length xs) 128) xs)) ≡ 0 → (i : ℕ) → get_or xs i 0 < 128
low_bytes [] none i = omega arith
low_bytes (x ∷ xs) none zero = low_byte x (leb 128 x) refl (omega arith)
low_bytes (x ∷ xs) none (suc i) = low_bytes xs (omega arith) i

ascii_of_lanes : (n : ℕ) (xs : List ℕ) → n ≤ 64 → length xs ≡ n → mask_l (map (top 7) (zip2 at_least (replicate n 128) xs)) % 2 ^ 64 ≡ 0 → (i : ℕ) → get_or xs i 0 < 128
ascii_of_lanes n xs few long none =
    let lanes = map (top 7) (zip2 at_least (replicate n 128) xs) in
    let all : length lanes ≤ 64 = omega (arith, length-map (zip2 at_least (replicate n 128) xs) (top 7), length-zip2 at_least (replicate n 128) xs (length-replicate {A = ℕ} n 128 ∙ sym long), length-replicate {A = ℕ} n 128) in
    low_bytes xs (ap (λ k. mask_l (map (top 7) (zip2 at_least (replicate k 128) xs))) long ∙ sym (mask_l-mod lanes 64 all) ∙ none)

-- and where all are below 128 none is set
high_bytes : (xs : List ℕ) → ((i : ℕ) → get_or xs i 0 < 128) → mask_l (map (top 7) (zip2 at_least (replicate (length xs) 128) xs)) ≡ 0
high_bytes [] low = refl
high_bytes (x ∷ xs) low =
    let test : leb 128 x ≡ false = search (arith, low zero) in
    omega (arith, ap {B = ℕ} (λ (b : Bool). cond (top 7 (cond b 255 0)) 1 0) test, high_bytes xs (λ i. low (suc i)))

lanes_of_ascii : (n : ℕ) (xs : List ℕ) → length xs ≡ n → ((i : ℕ) → get_or xs i 0 < 128) → mask_l (map (top 7) (zip2 at_least (replicate n 128) xs)) % 2 ^ 64 ≡ 0
lanes_of_ascii n xs long low =
    ap (λ (m : ℕ). m % 2 ^ 64) (ap (λ (k : ℕ). mask_l (map (top 7) (zip2 at_least (replicate k 128) xs))) (sym long) ∙ high_bytes xs low)

pub returns : goal.returns
returns g c = (
  λ yes. ascii_of_lanes g.row.N c.args.block c.requires c.fits-block.0 (eqb-true _ _ yes),
  λ low. subst (λ (n : ℕ). IsTrue (eqb n 0)) (sym (lanes_of_ascii g.row.N c.args.block c.fits-block.0 low)) refl,
)
