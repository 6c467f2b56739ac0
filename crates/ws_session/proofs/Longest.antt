-- The frames within the first bytes are the longest front of the frames that ends there and in which none passes the limit.
use Rattle.std.proofs.Common.{◌≡◌, ℕ, ◌+◌, ◌-◌, ◌≤◌, Bool, true, false, cond, List, [], ◌∷◌, ◌++◌, length, Option, Some, None, refl, sym, ap, ◌∙◌, arith, inl, inr, subst, suc}
use Rattle.std.proofs.lemmas.Bool.{cases_lt}
use Rattle.std.proofs.lemmas.List.{length-append}
use Rattle.ws_wire.specs.Frame.{Frame, KeyedFrame, frame_bytes, stream_bytes}
use Rattle.ws_session.specs.Limits.{LimitsValue}
use Rattle.ws_session.specs.Reach.{passes_limit, size_reason, PassingFrame, fitting_after, first_passing_after, ending_within, frames_within, IsWithin}
use Rattle.ws_session.proofs.Fitting.{passing_frame}
use Rattle.ws_session.proofs.Within.{ends_within, ends_beyond}

-- the same behind other frames
record IsWithinAfter (limits : LimitsValue) (before : List Frame) (n : ℕ) (xs front : List KeyedFrame) : Type 0 where
  pub later : List KeyedFrame
  pub parts : xs ≡ front ++ later
  pub bytes : length (stream_bytes front) ≤ n
  pub fits : first_passing_after limits before front ≡ None

nothing_within : (limits : LimitsValue) (before : List Frame) (n : ℕ) (xs : List KeyedFrame) → IsWithinAfter limits before n xs []
nothing_within limits before n xs = record { later = xs; parts = refl; bytes = omega arith; fits = refl }

one_within : (limits : LimitsValue) (before : List Frame) (n : ℕ) (x : KeyedFrame) (xs front : List KeyedFrame) → passes_limit limits before x.frame ≡ false → length (frame_bytes x) ≤ n
    → IsWithinAfter limits (before ++ x.frame ∷ []) (n - length (frame_bytes x)) xs front → IsWithinAfter limits before n (x ∷ xs) (x ∷ front)
one_within limits before n x xs front e le w = record {
  later = w.later;
  parts = ap (λ (l : List KeyedFrame). x ∷ l) w.parts;
  bytes = omega (arith, le, w.bytes, length-append (frame_bytes x) (stream_bytes front));
  fits = ap (λ b. cond b (Some (passing_frame x (size_reason limits before x.frame))) (first_passing_after limits (before ++ x.frame ∷ []) front)) e ∙ w.fits;
}

within_step : (b : Bool) (limits : LimitsValue) (before : List Frame) (n : ℕ) (x : KeyedFrame) (xs ys : List KeyedFrame) → passes_limit limits before x.frame ≡ b
    → (length (frame_bytes x) ≤ n → IsWithinAfter limits (before ++ x.frame ∷ []) (n - length (frame_bytes x)) xs (ending_within (n - length (frame_bytes x)) ys))
    → IsWithinAfter limits before n (x ∷ xs) (ending_within n (cond b [] (x ∷ ys)))
within_step true limits before n x xs ys e h = nothing_within limits before n (x ∷ xs)
within_step false limits before n x xs ys e h =
    elim (cases_lt n (length (frame_bytes x))) [
      | inl lt ↦ subst (λ (l : List KeyedFrame). IsWithinAfter limits before n (x ∷ xs) l) (sym (ends_beyond n x ys lt)) (nothing_within limits before n (x ∷ xs))
      | inr le ↦ subst (λ (l : List KeyedFrame). IsWithinAfter limits before n (x ∷ xs) l) (sym (ends_within n x ys le)) (one_within limits before n x xs (ending_within (n - length (frame_bytes x)) ys) e le (h le))
    ]

within_after : (limits : LimitsValue) (before : List Frame) (n : ℕ) (xs : List KeyedFrame) → IsWithinAfter limits before n xs (ending_within n (fitting_after limits before xs))
within_after limits before n [] = nothing_within limits before n []
within_after limits before n (x ∷ xs) =
    let after = before ++ x.frame ∷ [] in
    within_step (passes_limit limits before x.frame) limits before n x xs (fitting_after limits after xs) refl (λ le. within_after limits after (n - length (frame_bytes x)) xs)

pub is_within : (limits : LimitsValue) (n : ℕ) (xs : List KeyedFrame) → IsWithin limits n xs (frames_within limits n xs)
is_within limits n xs = let w = within_after limits [] n xs in record { later = w.later; parts = w.parts; bytes = w.bytes; fits = w.fits }

-- ---- and no other is longer

longer_step : (b : Bool) (limits : LimitsValue) (before : List Frame) (n k : ℕ) (x : KeyedFrame) (ys : List KeyedFrame) (p : PassingFrame) (o : Option PassingFrame) → cond b (Some p) o ≡ None → length (frame_bytes x) ≤ n
    → (o ≡ None → k ≤ length (ending_within (n - length (frame_bytes x)) ys)) → suc k ≤ length (ending_within n (cond b [] (x ∷ ys)))
longer_step true limits before n k x ys p o e le h = absurd cc
longer_step false limits before n k x ys p o e le h = omega (arith, h e, ap (λ (l : List KeyedFrame). length l) (ends_within n x ys le))

longest_after : (limits : LimitsValue) (before : List Frame) (n : ℕ) (front later : List KeyedFrame) → length (stream_bytes front) ≤ n → first_passing_after limits before front ≡ None
    → length front ≤ length (ending_within n (fitting_after limits before (front ++ later)))
longest_after limits before n [] later le e = omega arith
longest_after limits before n (x ∷ front) later le e =
    let after = before ++ x.frame ∷ [] in
    let len : length (stream_bytes (x ∷ front)) ≡ length (frame_bytes x) + length (stream_bytes front) = length-append (frame_bytes x) (stream_bytes front) in
    let first : length (frame_bytes x) ≤ n = omega arith in
    let rest : length (stream_bytes front) ≤ n - length (frame_bytes x) = omega arith in
    longer_step (passes_limit limits before x.frame) limits before n (length front) x (fitting_after limits after (front ++ later)) (passing_frame x (size_reason limits before x.frame)) (first_passing_after limits after front) e first (λ none. longest_after limits after (n - length (frame_bytes x)) front later rest none)

pub is_longest : (limits : LimitsValue) (n : ℕ) (xs front : List KeyedFrame) → IsWithin limits n xs front → length front ≤ length (frames_within limits n xs)
is_longest limits n xs front w = subst (λ (l : List KeyedFrame). length front ≤ length (frames_within limits n l)) (sym w.parts) (longest_after limits [] n front w.later w.bytes w.fits)
