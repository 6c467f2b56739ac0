-- A payload that is put unmasked block by block: each block begins at the phase of the first.
use Rattle.std.proofs.Common.{◌≡◌, ℕ, ◌+◌, ◌-◌, ◌*◌, ◌/◌, ◌%◌, ◌≤◌, List, ◌++◌, length, take, drop, sym, ap, ◌∙◌, append_assoc, arith}
use Rattle.std.proofs.lemmas.List.{length-take-le, take_all}
use Rattle.std.proofs.Math.Seq.{take-add}
use Rattle.ws_wire.specs.Masking.{masked}
use Rattle.ws_wire.proofs.Masks.{masked-append, masked_round}

-- what is masked in two parts, the first of which has whole keys
masked_parts : (key : List ℕ) (phase at : ℕ) (p q : List ℕ) → length p ≡ at → at % 4 ≡ 0 → masked key phase p ++ masked key phase q ≡ masked key phase (p ++ q)
masked_parts key phase at p q size whole =
    let keys : phase + length p ≡ phase + 4 * (at / 4) = omega (arith, size, whole) in
    ap (λ (t : List ℕ). masked key phase p ++ t) (sym (masked_round key phase (at / 4) q) ∙ ap (λ n. masked key n q) (sym keys))
    ∙ sym (masked-append key phase p q)

-- the loop's step: behind what was kept stands one part more
pub masked_further : (key : List ℕ) (phase at k size : ℕ) (p before kept new : List ℕ) → at ≤ length p → at % 4 ≡ 0 → k ≡ size
    → kept ≡ before ++ masked key phase (take at p) → new ≡ kept ++ masked key phase (take k (drop at p)) → new ≡ before ++ masked key phase (take (at + size) p)
masked_further key phase at k size p before kept new within whole same is put =
    let next : take at p ++ take k (drop at p) ≡ take (at + size) p = ap (λ n. take at p ++ take n (drop at p)) same ∙ sym (take-add at size p) in
    let both = masked_parts key phase at (take at p) (take k (drop at p)) (length-take-le at p within) whole ∙ ap (λ (t : List ℕ). masked key phase t) next in
    put ∙ ap (λ (t : List ℕ). t ++ masked key phase (take k (drop at p))) is
    ∙ append_assoc before (masked key phase (take at p)) (masked key phase (take k (drop at p)))
    ∙ ap (λ (t : List ℕ). before ++ t) both

-- and with the rest all of them
pub masked_whole : (key : List ℕ) (phase at k : ℕ) (p before kept new : List ℕ) → at ≤ length p → at % 4 ≡ 0 → k ≡ length p - at
    → kept ≡ before ++ masked key phase (take at p) → new ≡ kept ++ masked key phase (take k (drop at p)) → new ≡ before ++ masked key phase p
masked_whole key phase at k p before kept new within whole same is put =
    masked_further key phase at k (length p - at) p before kept new within whole same is put
    ∙ ap (λ (t : List ℕ). before ++ masked key phase t) (take_all (at + (length p - at)) p (omega (arith, within)))
