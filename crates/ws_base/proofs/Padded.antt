-- Bytes that are kept in place with zeros after them, where others take the place of the first of those zeros.
use Rattle.std.proofs.Common.{◌≡◌, ℕ, ◌+◌, ◌-◌, ◌≤◌, List, ◌++◌, length, take, drop, replicate}
use Rattle.std.proofs.Common.{append_assoc, refl, sym, ap, ◌∙◌, arith}
use Rattle.std.proofs.lemmas.List.{drop-replicate, drop_at, length-append, length-replicate, length-take-le}
use Rattle.std.proofs.lemmas.Slice.{take-put_mid}
use Rattle.ws_base.specs.InnerKept.{IsPadded}
use borrow.Rule.Slice.PartMut.{put_mid, post_of}

-- the bytes are as many as are counted
pub count_is : (n len : ℕ) (bytes view : List ℕ) → IsPadded n len bytes → take len bytes ≡ view → length view ≡ len
count_is n len bytes view p is =
    sym (ap (λ (l : List ℕ). length l) is) ∙ length-take-le len bytes (omega (arith, p.within, p.size))

-- all that is after the bytes and k zeros more is zero
zeros_after : (n len k : ℕ) (bytes : List ℕ) → IsPadded n len bytes
    → post_of len k bytes ≡ replicate (n - len - k) 0
zeros_after n len k bytes p =
    ap (λ (l : List ℕ). drop k (drop len l)) (sym p.zeros)
    ∙ ap (λ (l : List ℕ). drop k l)
    (drop_at (take len bytes) (replicate (n - len) 0) len (count_is n len bytes _ p refl))
    ∙ drop-replicate {X = ℕ} k (n - len) 0

-- what is kept after more was put behind the bytes
pub pushed : (n len k : ℕ) (bytes view copied more : List ℕ) → IsPadded n len bytes → take len bytes ≡ view
    → copied ≡ more → take (len + length more) (put_mid len k bytes copied) ≡ view ++ more
pushed n len k bytes view copied more p is copy =
    let size : length copied ≡ length more = ap (λ (l : List ℕ). length l) copy in
    take-put_mid len k bytes copied (len + length more) (omega (arith, size)) (omega (arith, p.within, p.size))
    ∙ ap (λ (l : List ℕ). l ++ copied) is ∙ ap (λ (l : List ℕ). view ++ l) copy

-- and zeros are still after them
pub pushed_padded : (n len k : ℕ) (bytes view copied more : List ℕ) → IsPadded n len bytes → take len bytes ≡ view
    → copied ≡ more → k ≡ length more → length view + length more ≤ n
    → IsPadded n (len + length more) (put_mid len k bytes copied)
pushed_padded n len k bytes view copied more p is copy count room =
    let front = count_is n len bytes view p is in
    let left : n - len - k ≡ n - (len + length more) = omega (arith, count) in
    let rest : post_of len k bytes ≡ replicate (n - (len + length more)) 0 =
    zeros_after n len k bytes p ∙ ap (λ m. replicate m 0) left in
    let kept : put_mid len k bytes copied ≡ view ++ (more ++ replicate (n - (len + length more)) 0) =
    ap (λ (l : List ℕ). l ++ (copied ++ post_of len k bytes)) is
    ∙ ap (λ (l : List ℕ). view ++ (l ++ post_of len k bytes)) copy
    ∙ ap (λ (l : List ℕ). view ++ (more ++ l)) rest in
    let all = ap (λ (l : List ℕ). length l) kept in
    let parts = length-append view (more ++ replicate (n - (len + length more)) 0) in
    let both = length-append more (replicate (n - (len + length more)) 0) in
    record {
      within = omega (arith, front, room);
      size = omega (arith, all, parts, both, length-replicate {A = ℕ} (n - (len + length more)) 0, front, room);
      zeros = ap (λ (l : List ℕ). l ++ replicate (n - (len + length more)) 0)
          (pushed n len k bytes view copied more p is copy)
          ∙ append_assoc view more (replicate (n - (len + length more)) 0) ∙ sym kept;
    }
