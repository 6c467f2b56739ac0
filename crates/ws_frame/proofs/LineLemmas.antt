-- What a line is made of.
use Rattle.std.proofs.Common.{◌≡◌, ℕ, ◌+◌, ◌-◌, ◌<◌, ◌≤◌, List, ◌++◌, length, get_or, take, drop, min, inl, inr, sym, ap, ◌∙◌, arith}
use Rattle.std.proofs.lemmas.Bool.{cases_lt}
use Rattle.std.proofs.lemmas.List.{ext_get_or, get_or-take, take-take, take-append-le, take_all, length-take, length-take-le}
use Rattle.std.proofs.Math.Seq.{take-append-add, take-append_seam}
use borrow.Rule.Slice.PartMut.{put_mid, post_of}
use Rattle.ws_wire.specs.Masking.{AreKeyLanes}

-- a block is put behind some bytes, and its front counts
pub front_put : (at k n : ℕ) (p block : List ℕ) → at ≤ length p → n ≤ length block → take (at + n) (put_mid at k p block) ≡ take at p ++ take n block
front_put at k n p block within le =
    ap (λ m. take (m + n) (put_mid at k p block)) (sym (length-take-le at p within))
    ∙ take-append-add (take at p) (block ++ post_of at k p) n
    ∙ ap (λ (t : List ℕ). take at p ++ t) (take-append-le n block (post_of at k p) le)

-- the digits of a number that end at a place are the front of what stands behind their start
pub digits_front : (end start : ℕ) (text buf rest : List ℕ) → start + length text ≡ end → drop start buf ≡ text ++ rest → take (end - start) (take ((start + end) - start) (drop start buf)) ≡ text
digits_front end start text buf rest ends is =
    let count : end - start ≡ length text = omega (arith, ends) in
    take-take (end - start) ((start + end) - start) (drop start buf) (omega arith)
    ∙ ap (λ n. take n (drop start buf)) count ∙ ap (λ (t : List ℕ). take (length text) t) is ∙ take-append_seam text rest

-- the first of so many bytes, of which sixteen were copied
pub front_of_few : (m count : ℕ) (bytes new : List ℕ) → m ≡ min count 16 → new ≡ take 16 bytes → take m new ≡ take 16 (take count bytes)
front_of_few m count bytes new least is =
    elim (cases_lt 16 count) [
      | inl more ↦
          let all : m ≡ 16 = omega (arith, least) in
          ap (λ n. take n new) all ∙ ap (λ (t : List ℕ). take 16 t) is ∙ take-take 16 16 bytes (omega arith) ∙ sym (take-take 16 count bytes (omega arith))
      | inr few ↦
          let some : m ≡ count = omega (arith, least) in
          ap (λ n. take n new) some ∙ ap (λ (t : List ℕ). take count t) is ∙ take-take count 16 bytes few
          ∙ sym (take_all 16 (take count bytes) (omega (arith, length-take count bytes)))
    ]

-- a key stands at the front of its lanes
pub key_in_front : (key lanes : List ℕ) → length key ≡ 4 → length lanes ≡ 16 → AreKeyLanes key 0 lanes → take 4 lanes ≡ key
key_in_front key lanes four long are =
    let count : length (take 4 lanes) ≡ 4 = length-take-le 4 lanes (omega (arith, long)) in
    ext_get_or 0 (take 4 lanes) key (count ∙ sym four) (λ i lt.
    let within : i < 4 = omega (arith, count, lt) in
    get_or-take 4 lanes i 0 within ∙ are i (omega (arith, long, within)) ∙ ap (λ k. get_or key k 0) (omega (arith, within)))
