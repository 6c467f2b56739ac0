-- What stands behind heads: more bytes stand behind what stood there.
use Rattle.std.proofs.Common.{◌≡◌, ◌∙◌, ℕ, ◌+◌, ◌-◌, ◌≤◌, Bool, true, false, List, [], ◌++◌, length, take, drop}
use Rattle.std.proofs.Common.{Option, Some, None, ap, arith, nat_le, refl, subst, sym}
use Rattle.std.specs.Prelude.{if◌then◌else◌}
use Rattle.std.specs.Io.KnownBytes.{Appends, Keeps}
use Rattle.std.proofs.lemmas.Bool.Decides.{nat_tests}
use Rattle.std.proofs.lemmas.List.{drop-append-le, length-append, length-take-le, take-append-drop}
use Rattle.std.proofs.lemmas.Option.{none-some}
use Rattle.std.proofs.Math.Seq.{drop-length}
use Rattle.wst_noted.specs.HeadWriting.{EndWith, known_last, last_bytes}

-- where there are as many
last_known : (n : ℕ) (xs : List ℕ) → n ≤ length xs → known_last n (Some xs) ≡ Some (last_bytes n xs)
last_known n xs le =
    let test : nat_le n (length xs) ≡ true = grind (arith, nat_tests, le) in
    ap (λ (b : Bool). if b then Some (last_bytes n xs) else None) test

last_none : (n : ℕ) (xs : List ℕ) → nat_le n (length xs) ≡ false → known_last n (Some xs) ≡ None
last_none n xs test = ap (λ (b : Bool). if b then Some (last_bytes n xs) else None) test

last_append : (n : ℕ) (xs bs : List ℕ) → n ≤ length xs → last_bytes (n + length bs) (xs ++ bs) ≡ last_bytes n xs ++ bs
last_append n xs bs le =
    let same : length (xs ++ bs) - (n + length bs) ≡ length xs - n = omega (arith, length-append xs bs, le) in
    ap (λ (k : ℕ). drop k (xs ++ bs)) same ∙ drop-append-le (length xs - n) xs bs (omega arith)

pub head_grows : (n : ℕ) (old new : Option (List ℕ)) (bs : List ℕ) → Appends old new bs
    → Appends (known_last n old) (known_last (n + length bs) new) bs
head_grows n None new bs grows = tt
head_grows n (Some xs) None bs grows = absurd grows
head_grows n (Some xs) (Some ys) bs grows = by_test (nat_le n (length xs)) refl
  where
    by_test : (t : Bool) → nat_le n (length xs) ≡ t
        → Appends (known_last n (Some xs)) (known_last (n + length bs) (Some ys)) bs
    by_test false test = subst (λ (o : Option (List ℕ)). Appends o (known_last (n + length bs) (Some ys)) bs)
        (sym (last_none n xs test)) tt
    by_test true test =
        let le : n ≤ length xs = grind (arith, nat_tests, test) in
        let len : length ys ≡ length xs + length bs = ap length grows ∙ length-append xs bs in
        let last : last_bytes (n + length bs) ys ≡ last_bytes n xs ++ bs =
        ap (last_bytes (n + length bs)) grows ∙ last_append n xs bs le in
        subst (λ (o : Option (List ℕ)). Appends o (known_last (n + length bs) (Some ys)) bs)
        (sym (last_known n xs le)) (subst (λ (o : Option (List ℕ)). Appends (Some (last_bytes n xs)) o bs)
        (sym (last_known (n + length bs) ys (omega (arith, len, le)))) last)

-- so it is where a count of them was taken
pub head_takes : (n k : ℕ) (old new : Option (List ℕ)) (bs : List ℕ) → k ≤ length bs → Appends old new (take k bs)
    → Appends (known_last n old) (known_last (n + k) new) (take k bs)
head_takes n k old new bs le grows = subst (λ (m : ℕ). Appends (known_last n old) (known_last (n + m) new) (take k bs))
    (length-take-le k bs le) (head_grows n old new (take k bs) grows)

none_last : (xs : List ℕ) → known_last 0 (Some xs) ≡ Some []
none_last xs =
    let all : length xs - 0 ≡ length xs = omega arith in
    let none : last_bytes 0 xs ≡ [] = ap (λ (k : ℕ). drop k xs) all ∙ drop-length xs in
    last_known 0 xs (omega arith) ∙ ap (λ (l : List ℕ). Some l) none

-- before the first of them whatever is written is of the heads
pub head_kept : (old new : Option (List ℕ)) (bs : List ℕ) → Appends old new bs
    → Keeps (known_last 0 old) (known_last 0 new)
head_kept None new bs grows = tt
head_kept (Some xs) None bs grows = absurd grows
head_kept (Some xs) (Some ys) bs grows = subst (λ (o : Option (List ℕ)). Keeps o (known_last 0 (Some ys)))
    (sym (none_last xs)) (subst (λ (o : Option (List ℕ)). Keeps (Some []) o) (sym (none_last ys)) refl)

pub begins_none : (held : Option (List ℕ)) (xs : List ℕ) → held ≡ Some xs → known_last 0 held ≡ Some []
begins_none held xs is = ap (known_last 0) is ∙ none_last xs

same_known : (a b : List ℕ) → Some a ≡ Some b → a ≡ b
same_known a b is = cc

-- what is known of a writer ends with them
pub ends_with : (n : ℕ) (held : Option (List ℕ)) (bytes : List ℕ) → known_last n held ≡ Some bytes
    → EndWith bytes held
ends_with n None bytes is = absurd (none-some bytes is)
ends_with n (Some xs) bytes is = by_test (nat_le n (length xs)) refl
  where
    by_test : (t : Bool) → nat_le n (length xs) ≡ t → EndWith bytes (Some xs)
    by_test false test = absurd (none-some bytes (sym (last_none n xs test) ∙ is))
    by_test true test =
        let le : n ≤ length xs = grind (arith, nat_tests, test) in
        let same : last_bytes n xs ≡ bytes = same_known (last_bytes n xs) bytes (sym (last_known n xs le) ∙ is) in (
          take (length xs - n) xs,
          ap (λ (l : List ℕ). Some l) (sym (take-append-drop (length xs - n) xs)
              ∙ ap (λ (l : List ℕ). take (length xs - n) xs ++ l) same),
        )

-- behind the last lines of heads
pub ends_so : (n : ℕ) (old new : Option (List ℕ)) (bytes : List ℕ) → Keeps old (known_last n new) → old ≡ Some bytes
    → EndWith bytes new
ends_so n old new bytes kept is =
    kept_known (known_last n new) (subst (λ (o : Option (List ℕ)). Keeps o (known_last n new)) is kept) refl
  where
    kept_known : (last : Option (List ℕ)) → Keeps (Some bytes) last → known_last n new ≡ last → EndWith bytes new
    kept_known None kept is = absurd kept
    kept_known (Some ys) kept is = ends_with n new bytes (is ∙ ap (λ (l : List ℕ). Some l) kept)
