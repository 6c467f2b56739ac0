-- Two cuts of streams, one of which begins the other.
use Rattle.std.proofs.Common.{◌≡◌, ℕ, ◌+◌, ◌-◌, ◌<◌, ◌≤◌, Bool, true, false, cond, List, [], ◌∷◌, ◌++◌, length, refl, sym, ap, ◌∙◌, append_assoc, arith, inl, inr}
use Rattle.std.proofs.lemmas.Bool.{cases_lt, lt-ltb, le-ltb}
use Rattle.std.proofs.lemmas.List.{length-append}
use Rattle.ws_wire.specs.Frame.{KeyedFrame, frame_bytes, stream_bytes}
use Rattle.ws_wire.proofs.Frames.{no_frame_begins}
use Rattle.ws_session.specs.Messages.{is_close}
use Rattle.ws_session.specs.Events.{through_close, ending_before}
use Rattle.ws_session.specs.InnerNextFrame.{AreSent, BeginsNoFrame}

-- a stream's frames are the first of those of a longer one
pub record FrameGoesOn (xs ys : List KeyedFrame) (a b : List ℕ) : Type 0 where
  pub later : List KeyedFrame
  pub sent : AreSent later
  pub frames : ys ≡ xs ++ later
  pub bytes : a ≡ stream_bytes later ++ b

pub goes_on : (xs ys : List KeyedFrame) (a b : List ℕ) → AreSent xs → AreSent ys → BeginsNoFrame b → stream_bytes xs ++ a ≡ stream_bytes ys ++ b → FrameGoesOn xs ys a b
goes_on [] ys a b cx cy nb e = record { later = ys; sent = cy; frames = refl; bytes = e }
goes_on (x ∷ xs) [] a b cx cy nb e = absurd (nb x (stream_bytes xs ++ a) cx.0 (sym e ∙ append_assoc (frame_bytes x) (stream_bytes xs) a))
goes_on (x ∷ xs) (y ∷ ys) a b cx cy nb e =
    let s = no_frame_begins x y (stream_bytes xs ++ a) (stream_bytes ys ++ b) cx.0 cy.0 (sym (append_assoc (frame_bytes x) (stream_bytes xs) a) ∙ e ∙ append_assoc (frame_bytes y) (stream_bytes ys) b) in
    let t = goes_on xs ys a b cx.1 cy.1 nb s.1 in
    record { later = t.later; sent = t.sent; frames = ap (λ (f : KeyedFrame). f ∷ ys) (sym s.0) ∙ ap (λ (l : List KeyedFrame). x ∷ l) t.frames; bytes = t.bytes }

sub_zero : (n : ℕ) → n - 0 ≡ n
sub_zero n = omega arith

-- the frames that end before a place, where all of the first do
pub ending_before_past : (n : ℕ) (xs ys : List KeyedFrame) → length (stream_bytes xs) < n → ending_before n (xs ++ ys) ≡ xs ++ ending_before (n - length (stream_bytes xs)) ys
ending_before_past n [] ys lt = ap (λ k. ending_before k ys) (sym (sub_zero n))
ending_before_past n (x ∷ xs) ys lt =
    let len : length (stream_bytes (x ∷ xs)) ≡ length (frame_bytes x) + length (stream_bytes xs) = length-append (frame_bytes x) (stream_bytes xs) in
    let short : length (frame_bytes x) < n = omega arith in
    let rest : length (stream_bytes xs) < n - length (frame_bytes x) = omega arith in
    let same : n - length (frame_bytes x) - length (stream_bytes xs) ≡ n - length (stream_bytes (x ∷ xs)) = omega arith in
    rw (lt-ltb (length (frame_bytes x)) n short) (ap (λ (l : List KeyedFrame). x ∷ l) (ending_before_past (n - length (frame_bytes x)) xs ys rest ∙ ap (λ k. xs ++ ending_before k ys) same))

-- and where the next does not
pub ending_before_stops : (n : ℕ) (xs : List KeyedFrame) (y : KeyedFrame) (ys : List KeyedFrame) → n ≤ length (stream_bytes xs) + length (frame_bytes y) → ending_before n (xs ++ y ∷ ys) ≡ ending_before n xs
ending_before_stops n [] y ys le =
    let ge : n ≤ length (frame_bytes y) = omega arith in
    rw (le-ltb (length (frame_bytes y)) n ge) refl
ending_before_stops n (x ∷ xs) y ys le =
    let len : length (stream_bytes (x ∷ xs)) ≡ length (frame_bytes x) + length (stream_bytes xs) = length-append (frame_bytes x) (stream_bytes xs) in
    let rest : n - length (frame_bytes x) ≤ length (stream_bytes xs) + length (frame_bytes y) = omega arith in
    let ih = ending_before_stops (n - length (frame_bytes x)) xs y ys rest in
    elim (cases_lt (length (frame_bytes x)) n) [
      | inl lt ↦ rw (lt-ltb (length (frame_bytes x)) n lt) (ap (λ (l : List KeyedFrame). x ∷ l) ih)
      | inr ge ↦ rw (le-ltb (length (frame_bytes x)) n ge) refl
    ]

until_more : (b : Bool) (x : KeyedFrame) (xs ys : List KeyedFrame) → ((zs : List KeyedFrame) × (through_close (xs ++ ys) ≡ through_close xs ++ zs)) → (zs : List KeyedFrame) × (cond b (x ∷ []) (x ∷ through_close (xs ++ ys)) ≡ cond b (x ∷ []) (x ∷ through_close xs) ++ zs)
until_more true x xs ys h = ([], refl)
until_more false x xs ys h = (h.0, ap (λ (l : List KeyedFrame). x ∷ l) h.1)

-- the first close of a longer list
pub through_close_more : (xs ys : List KeyedFrame) → (zs : List KeyedFrame) × (through_close (xs ++ ys) ≡ through_close xs ++ zs)
through_close_more [] ys = (through_close ys, refl)
through_close_more (x ∷ xs) ys = until_more (is_close x.frame) x xs ys (through_close_more xs ys)
