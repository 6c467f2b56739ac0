-- Payloads that stand one behind the other, cut by their lengths: one more, one less, and where each stands.
use Rattle.std.proofs.Common.{◌≡◌, ◌∙◌, ℕ, zero, suc, ◌+◌, ◌-◌, ◌≤◌, ◌<◌, List, [], ◌∷◌, ◌++◌, length, take, drop, sum}
use Rattle.std.proofs.Common.{slice_index_or, ap, ap₂, sym, refl, arith}
use Rattle.std.proofs.lemmas.List.{drop-append-le, drop-drop, drop-take, length-drop, length-take-le, take-append-le}
use Rattle.std.proofs.lemmas.List.{take-take, take_all}
use Rattle.std.proofs.lemmas.List.Sums.{sum_by-cons, sum_by-take-le}
use Rattle.std.specs.List.{remove, remove_range}
use Rattle.ws_suite.specs.InnerUnanswered.{payloads_by}

first_len : (x : ℕ) (lens : List ℕ) → sum (x ∷ lens) ≡ x + sum lens
first_len x lens = sum_by-cons (λ n. n) x lens

-- those after the first have the rest of the bytes
rest_of : (x : ℕ) (lens bytes : List ℕ) → sum (x ∷ lens) ≡ length bytes → sum lens ≡ length (drop x bytes)
rest_of x lens bytes count = omega (arith, count, first_len x lens, length-drop x bytes)

-- ---- one more

pub cut_more : (lens : List ℕ) (len : ℕ) (bytes payload : List ℕ) → sum lens ≡ length bytes → len ≡ length payload
    → payloads_by (lens ++ len ∷ []) (bytes ++ payload) ≡ payloads_by lens bytes ++ payload ∷ []
cut_more [] len [] payload count is =
    ap (λ (l : List ℕ). l ∷ []) (take_all len payload (omega (arith, is)))
cut_more [] len (x ∷ bytes) payload count is = absurd (omega (arith, count))
cut_more (x ∷ lens) len bytes payload count is =
    let less : x ≤ length bytes = omega (arith, count, first_len x lens) in
    ap₂ (λ (a b : List ℕ). a ∷ payloads_by (lens ++ len ∷ []) b) (take-append-le x bytes payload less)
    (drop-append-le x bytes payload less)
    ∙ ap (λ (l : List (List ℕ)). take x bytes ∷ l)
    (cut_more lens len (drop x bytes) payload (rest_of x lens bytes count) is)

-- ---- where one stands

pub cut_count : (lens bytes : List ℕ) → length (payloads_by lens bytes) ≡ length lens
cut_count [] bytes = refl
cut_count (x ∷ lens) bytes = ap suc (cut_count lens (drop x bytes))

pub cut_at : (lens bytes : List ℕ) (number d : ℕ) (other : List ℕ) → number < length lens
    → slice_index_or (payloads_by lens bytes) number other
    ≡ take (slice_index_or lens number d) (drop (sum (take number lens)) bytes)
cut_at [] bytes number d other there = absurd (omega (arith, there))
cut_at (x ∷ lens) bytes zero d other there = refl
cut_at (x ∷ lens) bytes (suc n) d other there =
    cut_at lens (drop x bytes) n d other (omega (arith, there))
    ∙ ap (λ (l : List ℕ). take (slice_index_or lens n d) l) (drop-drop (sum (take n lens)) x bytes
    ∙ ap (λ (s : ℕ). drop s bytes) (sym (first_len x (take n lens))))

-- as it is read
pub own_payload : (lens bytes : List ℕ) (number len start : ℕ) (other : List ℕ) → number < length lens
    → start ≡ sum (take number lens) → len ≡ slice_index_or lens number len
    → slice_index_or (payloads_by lens bytes) number other ≡ take ((start + len) - start) (drop start bytes)
own_payload lens bytes number len start other there s l =
    cut_at lens bytes number len other there
    ∙ ap₂ (λ (a b : ℕ). take a (drop b bytes)) (omega (arith, l)) (sym s)

-- it stands within the bytes
pub within_bytes : (lens : List ℕ) (number d : ℕ) → number < length lens
    → sum (take number lens) + slice_index_or lens number d ≤ sum lens
within_bytes [] number d there = absurd (omega (arith, there))
within_bytes (x ∷ lens) zero d there = omega (arith, first_len x lens)
within_bytes (x ∷ lens) (suc n) d there = omega (
  arith,
  within_bytes lens n d (omega (arith, there)),
  first_len x lens,
  first_len x (take n lens),
)

-- ---- one less

pub len_less : (lens : List ℕ) (number d : ℕ) → number < length lens
    → sum (remove lens number) + slice_index_or lens number d ≡ sum lens
len_less [] number d there = absurd (omega (arith, there))
len_less (x ∷ lens) zero d there = omega (arith, first_len x lens)
len_less (x ∷ lens) (suc n) d there = omega (
  arith,
  len_less lens n d (omega (arith, there)),
  first_len x lens,
  first_len x (remove lens n),
)

-- what stands before a part that is taken out, and what is left behind that
module _ (bytes : List ℕ) (x before after : ℕ) (less : x + before ≤ length bytes) where
  enough : x ≤ length (take (x + before) bytes)
  enough = omega (arith, length-take-le (x + before) bytes less)

  front_stays : take x (remove_range bytes (x + before) (x + after)) ≡ take x bytes
  front_stays = take-append-le x (take (x + before) bytes) (drop (x + after) bytes) enough
      ∙ take-take x (x + before) bytes (omega arith)

  pub behind_front : drop x (remove_range bytes (x + before) (x + after)) ≡ remove_range (drop x bytes) before after
  behind_front = drop-append-le x (take (x + before) bytes) (drop (x + after) bytes) enough
      ∙ ap₂ (λ (a b : List ℕ). a ++ b) (drop-take x before bytes) (sym (drop-drop after x bytes))

pub cut_less : (lens bytes : List ℕ) (number d start end : ℕ) → number < length lens → sum lens ≡ length bytes
    → start ≡ sum (take number lens) → end ≡ start + slice_index_or lens number d
    → payloads_by (remove lens number) (remove_range bytes start end) ≡ remove (payloads_by lens bytes) number
cut_less [] bytes number d start end there count s e = absurd (omega (arith, there))
cut_less (x ∷ lens) bytes zero d start end there count s e =
    ap₂ (λ (a b : ℕ). payloads_by lens (remove_range bytes a b)) s (omega (arith, s, e))
cut_less (x ∷ lens) bytes (suc n) d start end there count s e =
    let before = sum (take n lens) in
    let after = before + slice_index_or lens n d in
    let s_is : start ≡ x + before = s ∙ first_len x (take n lens) in
    let e_is : end ≡ x + after = omega (arith, e, s_is) in
    let less : x + before ≤ length bytes =
    omega (arith, count, first_len x lens, sum_by-take-le (λ n. n) lens n) in
    ap₂ (λ (a b : ℕ). payloads_by (x ∷ remove lens n) (remove_range bytes a b)) s_is e_is
    ∙ (ap₂ (λ (a b : List ℕ). a ∷ payloads_by (remove lens n) b) (front_stays bytes x before after less)
    (behind_front bytes x before after less)
    ∙ ap (λ (l : List (List ℕ)). take x bytes ∷ l)
    (cut_less lens (drop x bytes) n d before after (omega (arith, there)) (rest_of x lens bytes count) refl refl))
