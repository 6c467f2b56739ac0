-- Bytes that are held once, and where their pieces begin and end.
use Rattle.std.proofs.Common.{◌≡◌, ◌∙◌, ℕ, zero, suc, ◌+◌, ◌-◌, ◌*◌, ◌^◌, ◌<◌, ◌≤◌, List, [], ◌∷◌, ◌++◌, length, take, drop, min, get_or, ap, sym, refl, subst, arith, append_assoc}
use Rattle.std.proofs.lemmas.List.{drop_at, length-append, length-drop, length-take, take-append-drop, take_at}
use Rattle.std.specs.Int.{div_ceil}
use Rattle.std.specs.List.{AllByRecursion, concat}
use Rattle.std.proofs.lemmas.Grind.{div_ceil_times}
use Rattle.ws_scripts.specs.Scripts.{AreOctets, has_bytes}
use Rattle.ws_scripts.specs.declared.cut_turn.Cut.{Cut}
use Rattle.ws_scripts.specs.declared.cut_turn.Cut.TheVariants.{At, Every}
use Rattle.ws_scripts.specs.InnerCutting.{AreEndsOf, IsCut, IsCutEvery, cut_at, cut_every, ends_of, pieces_of}

-- ---- any pieces

after_front : (p q : List ℕ) (n : ℕ) → drop (length p + n) (p ++ q) ≡ drop n q
after_front [] q n = let none : 0 + n ≡ n = omega arith in ap (λ (k : ℕ). drop k q) none
after_front (b ∷ p) q n =
    let one : suc (length p) + n ≡ suc (length p + n) = omega arith in
    ap (λ (k : ℕ). drop k (b ∷ p ++ q)) one ∙ after_front p q n

-- a piece stands where those before it end, up to where it ends itself
piece_at : (pieces : List (List ℕ)) (i : ℕ)
    → take (length (concat (take (suc i) pieces)) - length (concat (take i pieces))) (drop (length (concat (take i pieces))) (concat pieces)) ≡ get_or pieces i []
piece_at [] zero = refl
piece_at [] (suc i) = refl
piece_at (p ∷ pieces) zero =
    let long : length (p ++ []) - 0 ≡ length p = omega (arith, length-append p []) in
    ap (λ (n : ℕ). take n (p ++ concat pieces)) long ∙ take_at p (concat pieces) (length p) refl
piece_at (p ∷ pieces) (suc i) =
    let first = concat (take i pieces) in
    let next = concat (take (suc i) pieces) in
    let gap : length (p ++ next) - length (p ++ first) ≡ length next - length first = omega (arith, length-append p next, length-append p first) in
    ap (λ (n : ℕ). take n (drop (length (p ++ first)) (p ++ concat pieces))) gap
    ∙ (ap (λ (n : ℕ). take (length next - length first) (drop n (p ++ concat pieces))) (length-append p first)
    ∙ (ap (λ (l : List ℕ). take (length next - length first) l) (after_front p (concat pieces) (length first)) ∙ piece_at pieces i))

joined_parts : (pieces : List (List ℕ)) (i : ℕ) → concat pieces ≡ concat (take i pieces) ++ concat (drop i pieces)
joined_parts [] zero = refl
joined_parts [] (suc i) = refl
joined_parts (p ∷ pieces) zero = refl
joined_parts (p ∷ pieces) (suc i) = ap (λ (l : List ℕ). p ++ l) (joined_parts pieces i) ∙ sym (append_assoc p (concat (take i pieces)) (concat (drop i pieces)))

-- the bytes of the first pieces are the first bytes
pub first_bytes : (pieces : List (List ℕ)) (i : ℕ) → take (length (concat (take i pieces))) (concat pieces) ≡ concat (take i pieces)
first_bytes pieces i =
    let front = concat (take i pieces) in
    ap (λ (l : List ℕ). take (length front) l) (joined_parts pieces i) ∙ take_at front (concat (drop i pieces)) (length front) refl

-- those of more pieces are not fewer, and all are the most
in_order : (pieces : List (List ℕ)) (i : ℕ) → length (concat (take i pieces)) ≤ length (concat (take (suc i) pieces))
in_order [] zero = omega arith
in_order [] (suc i) = omega arith
in_order (p ∷ pieces) zero = omega arith
in_order (p ∷ pieces) (suc i) = omega (arith, in_order pieces i, length-append p (concat (take i pieces)), length-append p (concat (take (suc i) pieces)))

within_all : (pieces : List (List ℕ)) (i : ℕ) → length (concat (take i pieces)) ≤ length (concat pieces)
within_all pieces i =
    omega (arith, ap (λ (l : List ℕ). length l) (joined_parts pieces i), length-append (concat (take i pieces)) (concat (drop i pieces)))

-- ---- cut after each n bytes

pub count_every : (n count : ℕ) (bytes : List ℕ) → length (cut_every n count bytes) ≡ count
count_every n zero bytes = refl
count_every n (suc count) bytes = ap (λ (k : ℕ). suc k) (count_every n count (drop n bytes))

joined_every : (n count : ℕ) (bytes : List ℕ) → length bytes ≤ count * n → concat (cut_every n count bytes) ≡ bytes
joined_every n zero [] all = refl
joined_every n zero (b ∷ bytes) all = absurd (omega (arith, all))
joined_every n (suc count) bytes all =
    let rest : length (drop n bytes) ≤ count * n = omega (arith, all, length-drop n bytes) in
    ap (λ (l : List ℕ). take n bytes ++ l) (joined_every n count (drop n bytes) rest) ∙ take-append-drop n bytes

some_in_every : (n count : ℕ) (bytes : List ℕ) → 0 < n → count * n < length bytes + n → AllByRecursion has_bytes (cut_every n count bytes)
some_in_every n zero bytes some few = tt
some_in_every n (suc count) bytes some few =
    (omega (arith, few, some, length-take n bytes), some_in_every n count (drop n bytes) some (omega (arith, few, some, length-drop n bytes)))

octets_every : (n count : ℕ) (bytes : List ℕ) → count * n < length bytes + n → AreOctets n (cut_every n count bytes)
octets_every n zero bytes few = tt
octets_every n (suc zero) bytes few = omega (arith, length-take n bytes)
octets_every n (suc (suc count)) bytes few =
    (omega (arith, few, length-take n bytes), octets_every n (suc count) (drop n bytes) (omega (arith, few, length-drop n bytes)))

-- so many of them begin after as many bytes each
start_every : (n count i : ℕ) (bytes : List ℕ) → length bytes ≤ count * n → length (concat (take i (cut_every n count bytes))) ≡ min (i * n) (length bytes)
start_every n zero zero bytes all = omega (arith, all)
start_every n zero (suc i) bytes all = omega (arith, all)
start_every n (suc count) zero bytes all = omega arith
start_every n (suc count) (suc i) bytes all =
    let rest : length (drop n bytes) ≤ count * n = omega (arith, all, length-drop n bytes) in
    omega (arith, length-append (take n bytes) (concat (take i (cut_every n count (drop n bytes)))), start_every n count i (drop n bytes) rest, length-take n bytes, length-drop n bytes)

-- where no more than n bytes are cut, there is no second piece
one_at_most : (n count all : ℕ) → count * n < all + n → all ≤ n → count ≤ 1
one_at_most n zero all few one = omega arith
one_at_most n (suc zero) all few one = omega arith
one_at_most n (suc (suc count)) all few one = absurd (omega (arith, few, one))

-- bytes that are cut after each n of them
pub cut_every_is : (n : ℕ) (bytes : List ℕ) → 0 < n → IsCutEvery n bytes (cut_every n (div_ceil (length bytes) n) bytes)
cut_every_is n bytes some =
    let count = div_ceil (length bytes) n in
    let (all, few) = div_ceil_times (length bytes) n some in
    record {
      joined = joined_every n count bytes all;
      none_empty = some_in_every n count bytes some few;
      octets = octets_every n count bytes few;
      whole = λ one. omega (arith, count_every n count bytes, one_at_most n count (length bytes) few one);
    }

-- ---- cut at the ends of pieces

-- pieces are those that end where they end
cut_at_ends : (from : ℕ) (pieces : List (List ℕ)) → cut_at from (ends_of from pieces) (concat pieces) ≡ pieces
cut_at_ends from [] = refl
cut_at_ends from (p ∷ pieces) =
    let end = from + length p in
    let long : end - from ≡ length p = omega arith in
    ap (λ (n : ℕ). take n (p ++ concat pieces) ∷ cut_at end (ends_of end pieces) (drop n (p ++ concat pieces))) long
    ∙ (ap (λ (l : List ℕ). l ∷ cut_at end (ends_of end pieces) (drop (length p) (p ++ concat pieces))) (take_at p (concat pieces) (length p) refl)
    ∙ (ap (λ (l : List ℕ). p ∷ cut_at end (ends_of end pieces) l) (drop_at p (concat pieces) (length p) refl)
    ∙ ap (λ (l : List (List ℕ)). p ∷ l) (cut_at_ends end pieces)))

pub count_at : (from : ℕ) (ends bytes : List ℕ) → length (cut_at from ends bytes) ≡ length ends
count_at from [] bytes = refl
count_at from (end ∷ ends) bytes = ap (λ (k : ℕ). suc k) (count_at end ends (drop (end - from) bytes))

-- the end of each piece, or of all
end_at : (from : ℕ) (pieces : List (List ℕ)) (i : ℕ)
    → get_or (ends_of from pieces) i (from + length (concat pieces)) ≡ from + length (concat (take (suc i) pieces))
end_at from [] zero = refl
end_at from [] (suc i) = refl
end_at from (p ∷ pieces) zero = omega (arith, length-append p [])
end_at from (p ∷ pieces) (suc i) =
    let end = from + length p in
    ap (λ (n : ℕ). get_or (ends_of end pieces) i n) (omega (arith, length-append p (concat pieces)))
    ∙ (end_at end pieces i ∙ omega (arith, length-append p (concat (take (suc i) pieces))))

-- one more piece ends after its bytes
pub ends_more : (from : ℕ) (pieces more : List (List ℕ)) → ends_of from (pieces ++ more) ≡ ends_of from pieces ++ ends_of (from + length (concat pieces)) more
ends_more from [] more = let none : from ≡ from + 0 = omega arith in ap (λ (n : ℕ). ends_of n more) none
ends_more from (p ∷ pieces) more =
    let end = from + length p in
    ap (λ (l : List ℕ). end ∷ l) (ends_more end pieces more
    ∙ ap (λ (n : ℕ). ends_of end pieces ++ ends_of n more) (omega (arith, length-append p (concat pieces))))

-- bytes that are cut at the ends of pieces
pub cut_at_is : (pieces : List (List ℕ)) (bytes ends : List ℕ) → AreEndsOf pieces bytes ends → cut_at 0 ends bytes ≡ pieces
cut_at_is pieces bytes ends is =
    ap (λ (l : List ℕ). cut_at 0 l bytes) is.ends_are ∙ (ap (λ (l : List ℕ). cut_at 0 (ends_of 0 pieces) l) (sym is.joined) ∙ cut_at_ends 0 pieces)

-- places that are kept again are still the ends of pieces
pub kept_ends : (pieces : List (List ℕ)) (bytes ends kept : List ℕ) → AreEndsOf pieces bytes ends → kept ≡ ends → AreEndsOf (cut_at 0 kept bytes) bytes kept
kept_ends pieces bytes ends kept is e =
    let same : AreEndsOf pieces bytes kept = subst (λ (l : List ℕ). AreEndsOf pieces bytes l) (sym e) is in
    subst (λ (l : List (List ℕ)). AreEndsOf l bytes kept) (sym (cut_at_is pieces bytes kept same)) same

-- ---- a turn as it is kept

pub joined_of : (cut : Cut) (bytes : List ℕ) → IsCut cut bytes → concat (pieces_of cut bytes) ≡ bytes
joined_of (Every n) bytes some = (cut_every_is n bytes some).joined
joined_of (At ends) bytes are = are.joined

-- where no byte is left, there is no piece
pub no_pieces : (pieces : List (List ℕ)) → concat pieces ≡ [] → AllByRecursion has_bytes pieces → pieces ≡ []
no_pieces [] e some = refl
no_pieces ([] ∷ pieces) e some = absurd (let none : 0 < 0 = some.0 in omega arith)
no_pieces ((b ∷ p) ∷ pieces) e some = absurd cc

one_more : (pieces : List (List ℕ)) (i : ℕ) → length (concat (take (suc i) pieces)) ≡ length (concat (take (i + 1) pieces))
one_more pieces i =
    let one : suc i ≡ i + 1 = omega arith in
    ap (λ (k : ℕ). length (concat (take k pieces))) one

-- the end that is counted in numbers up to a largest one
pub end_every : (n i times behind end : ℕ) (bytes : List ℕ) → 0 < n → length bytes < 2 ^ 64 → times ≡ min (i * n) (2 ^ 64 - 1) → behind ≡ min (times + n) (2 ^ 64 - 1)
    → end ≡ min behind (length bytes) → end ≡ length (concat (take (i + 1) (cut_every n (div_ceil (length bytes) n) bytes)))
end_every n i times behind end bytes some fits t b e =
    let (all, few) = div_ceil_times (length bytes) n some in
    let pieces = cut_every n (div_ceil (length bytes) n) bytes in
    omega (arith, fits, t, b, e, start_every n (div_ceil (length bytes) n) (suc i) bytes all, one_more pieces i)

-- the end that is kept
pub end_kept : (i end all : ℕ) (bytes ends : List ℕ) → AreEndsOf (cut_at 0 ends bytes) bytes ends → all ≡ length bytes → end ≡ get_or ends i all
    → end ≡ length (concat (take (i + 1) (cut_at 0 ends bytes)))
end_kept i end all bytes ends are a e =
    let pieces = cut_at 0 ends bytes in
    let long : all ≡ 0 + length (concat pieces) = omega (arith, a, ap (λ (l : List ℕ). length l) are.joined) in
    let at : end ≡ 0 + length (concat (take (suc i) pieces)) =
    e ∙ (ap (λ (l : List ℕ). get_or l i all) are.ends_are ∙ (ap (λ (k : ℕ). get_or (ends_of 0 pieces) i k) long ∙ end_at 0 pieces i)) in
    omega (arith, at, one_more pieces i)

-- the bytes of a piece stand from its start to its end
pub record IsPieceAt (pieces : List (List ℕ)) (bytes : List ℕ) (i start end : ℕ) : Type 0 where
  pub in_order : start ≤ end
  pub within : end ≤ length bytes
  pub is : take (end - start) (drop start bytes) ≡ get_or pieces i []

piece_between : (pieces : List (List ℕ)) (bytes : List ℕ) (i start end : ℕ) → concat pieces ≡ bytes → start ≡ length (concat (take i pieces)) → end ≡ length (concat (take (i + 1) pieces))
    → IsPieceAt pieces bytes i start end
piece_between pieces bytes i start end joined s e =
    let e : end ≡ length (concat (take (suc i) pieces)) = e ∙ sym (one_more pieces i) in
    record {
      in_order = omega (arith, s, e, in_order pieces i);
      within = omega (arith, e, within_all pieces (suc i), ap (λ (l : List ℕ). length l) joined);
      is = ap (λ (k : ℕ). take (k - start) (drop start bytes)) e
          ∙ (ap (λ (k : ℕ). take (length (concat (take (suc i) pieces)) - k) (drop k bytes)) s
          ∙ (ap (λ (l : List ℕ). take (length (concat (take (suc i) pieces)) - length (concat (take i pieces))) (drop (length (concat (take i pieces))) l)) (sym joined)
          ∙ piece_at pieces i));
    }

pub kept_piece : (cut : Cut) (bytes kept : List ℕ) (pieces : List (List ℕ)) (i start end : ℕ) → kept ≡ bytes → IsCut cut bytes → pieces_of cut bytes ≡ pieces
    → start ≡ length (concat (take i pieces)) → end ≡ length (concat (take (i + 1) pieces)) → IsPieceAt pieces kept i start end
kept_piece cut bytes kept pieces i start end same is_cut are s e =
    piece_between pieces kept i start end (ap (λ (l : List (List ℕ)). concat l) (sym are) ∙ joined_of cut bytes is_cut ∙ sym same) s e
