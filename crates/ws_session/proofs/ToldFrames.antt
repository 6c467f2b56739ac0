-- What holds of each event that a stream tells: it is that of a frame without a fault after those before it, or a fault.
use Rattle.std.proofs.Common.{◌≡◌, ℕ, ◌+◌, ◌-◌, ◌<◌, ◌≤◌, Bool, true, false, cond, List, [], ◌∷◌, ◌++◌, length, Option, Some, None, refl, sym, ap, ◌∙◌, append_assoc, arith, inl, inr, subst}
use Rattle.std.specs.List.{AllByRecursion}
use Rattle.std.proofs.lemmas.Bool.{cases_lt, lt-ltb, le-ltb}
use Rattle.std.proofs.lemmas.List.{length-append, append-nil, map-append}
use Rattle.std.proofs.lemmas.Grind.{flat_map-append}
use Rattle.ws_wire.specs.declared.role.Role.{Role}
use Rattle.ws_wire.specs.Frame.{Frame, KeyedFrame, FitsTheLayout, frame_bytes, stream_bytes}
use Rattle.ws_wire.specs.Stream.{SplitsInto}
use Rattle.ws_wire.proofs.Splits.{all-append}
use Rattle.ws_session.specs.declared.message.Message.{Message}
use Rattle.ws_session.specs.declared.reason.Reason.{Reason}
use Rattle.ws_session.specs.declared.event.Event.{Event}
use Rattle.ws_session.specs.declared.event.Event.TheVariants as event
use Rattle.ws_session.specs.Limits.{LimitsValue}
use Rattle.ws_session.specs.Messages.{is_close, open_message_of}
use Rattle.ws_session.specs.Faults.{frames_of, IsNoClose, IsFaultAt}
use Rattle.ws_session.specs.Events.{event_of, events_after, through_close, ending_before, events_of, IsFaultOf, HasEvents}
use Rattle.ws_session.specs.InnerNextFrame.{AreSent, HasNoFaultOfNext}
use Rattle.ws_session.proofs.Next.{place_is, two_bytes, within_front, next_later, fault_of_next}
use Rattle.ws_session.proofs.Within.{split_all}

-- the frames that end before a place, and what follows them
pub record BeforeParts (n : ℕ) (xs ys : List KeyedFrame) : Type 0 where
  pub more : List KeyedFrame
  pub parts : xs ≡ ys ++ more
  pub size : length (stream_bytes ys) < n

pub before_parts : (n : ℕ) (xs : List KeyedFrame) → 0 < n → BeforeParts n xs (ending_before n xs)
before_parts n [] some = record { more = []; parts = refl; size = some }
before_parts n (x ∷ xs) some =
    elim (cases_lt (length (frame_bytes x)) n) [
      | inl lt ↦
          let k = n - length (frame_bytes x) in
          let left : 0 < k = omega (arith, lt) in
          let t = before_parts k xs left in
          rw (lt-ltb (length (frame_bytes x)) n lt) (record { more = t.more; parts = ap (λ (l : List KeyedFrame). x ∷ l) t.parts; size = omega (arith, t.size, length-append (frame_bytes x) (stream_bytes (ending_before k xs))) })
      | inr ge ↦ rw (le-ltb (length (frame_bytes x)) n ge) (record { more = x ∷ xs; parts = refl; size = some })
    ]

-- the next frame has no fault where the stream has none up to its end
pub fine_next : (role : Role) (limits : LimitsValue) (s : List ℕ) (before : List KeyedFrame) (x : KeyedFrame) (u : List ℕ) → s ≡ stream_bytes before ++ (frame_bytes x ++ u) → AreSent before → AllByRecursion IsNoClose before → FitsTheLayout x
    → ((n : ℕ) (r : Reason) → n ≤ length (stream_bytes before) + length (frame_bytes x) → IsFaultAt role limits s n r → ⊥) → HasNoFaultOfNext role limits (open_message_of (frames_of before)) (frame_bytes x)
fine_next role limits s before x u e each no_close can clean k r f =
    let opened = open_message_of (frames_of before) in
    let t = frame_bytes x ++ u in
    let within : k ≤ length (frame_bytes x) = within_front role limits opened (frame_bytes x) k r f x [] can (sym (append-nil (frame_bytes x))) in
    let here : (n : ℕ) (q : Reason) → n ≤ length (stream_bytes before) + length (frame_bytes x) → IsFaultAt role limits (stream_bytes before ++ t) n q → ⊥ = λ n q le g. clean n q le (subst (λ (l : List ℕ). IsFaultAt role limits l n q) (sym e) g) in
    here (length (stream_bytes before) + k) r (omega (arith, within))
    (fault_of_next role limits before t each no_close (λ n q le g. here n q (omega (arith, le)) g) k r (next_later role limits opened (frame_bytes x) u k r f))

-- P holds of the event of a frame without a fault after frames that leave a message open of which Q holds, and then Q
-- holds of what is left open
module _ (role : Role) (limits : LimitsValue) (P : Event → Type 0) (Q : Option Message → Type 0)
    (step : (before : List Frame) (x : KeyedFrame) → FitsTheLayout x → HasNoFaultOfNext role limits (open_message_of before) (frame_bytes x) → Q (open_message_of before) → P (event_of before x.frame) × Q (open_message_of (before ++ x.frame ∷ [])))
    (first : Q None) (failed : (r : Reason) → P (event.Failed r)) where
  each_step : (c : Bool) (before : List KeyedFrame) (x : KeyedFrame) (xs : List KeyedFrame) → is_close x.frame ≡ c → P (event_of (frames_of before) x.frame)
      → (c ≡ false → AllByRecursion P (events_after (frames_of (before ++ x ∷ [])) (frames_of (through_close xs)))) → AllByRecursion P (events_after (frames_of before) (frames_of (cond c (x ∷ []) (x ∷ through_close xs))))
  each_step true before x xs is here later = (here, tt)
  each_step false before x xs is here later =
      (here, subst (λ (l : List Frame). AllByRecursion P (events_after l (frames_of (through_close xs)))) (map-append (λ (y : KeyedFrame). y.frame) before (x ∷ [])) (later refl))

  each_after : (s : List ℕ) (before xs : List KeyedFrame) (rest : List ℕ) → s ≡ stream_bytes before ++ (stream_bytes xs ++ rest) → AreSent before → AllByRecursion IsNoClose before → AreSent xs → Q (open_message_of (frames_of before))
      → ((n : ℕ) (r : Reason) → n ≤ length (stream_bytes before) + length (stream_bytes xs) → IsFaultAt role limits s n r → ⊥) → AllByRecursion P (events_after (frames_of before) (frames_of (through_close xs)))
  each_after s before [] rest e each no_close sent left clean = tt
  each_after s before (x ∷ xs) rest e each no_close sent left clean =
      let len : length (stream_bytes (x ∷ xs)) ≡ length (frame_bytes x) + length (stream_bytes xs) = length-append (frame_bytes x) (stream_bytes xs) in
      let parts : s ≡ stream_bytes before ++ (frame_bytes x ++ (stream_bytes xs ++ rest)) = e ∙ ap (λ (l : List ℕ). stream_bytes before ++ l) (append_assoc (frame_bytes x) (stream_bytes xs) rest) in
      let more : stream_bytes (before ++ x ∷ []) ≡ stream_bytes before ++ frame_bytes x = flat_map-append frame_bytes before (x ∷ []) ∙ ap (λ (l : List ℕ). stream_bytes before ++ l) (append-nil (frame_bytes x)) in
      let size : length (stream_bytes (before ++ x ∷ [])) ≡ length (stream_bytes before) + length (frame_bytes x) = ap (λ (l : List ℕ). length l) more ∙ length-append (stream_bytes before) (frame_bytes x) in
      let now = step (frames_of before) x sent.0 (fine_next role limits s before x (stream_bytes xs ++ rest) parts each no_close sent.0 (λ n r le f. clean n r (omega (arith, le, len)) f)) left in
      let next : Q (open_message_of (frames_of (before ++ x ∷ []))) = subst (λ (l : List Frame). Q (open_message_of l)) (sym (map-append (λ (y : KeyedFrame). y.frame) before (x ∷ []))) now.1 in
      each_step (is_close x.frame) before x xs refl now.0
      (λ not_close. each_after s (before ++ x ∷ []) xs rest
      (parts ∙ sym (append_assoc (stream_bytes before) (frame_bytes x) (stream_bytes xs ++ rest)) ∙ ap (λ (l : List ℕ). l ++ (stream_bytes xs ++ rest)) (sym more))
      (all-append FitsTheLayout before (x ∷ []) each (sent.0, tt)) (all-append IsNoClose before (x ∷ []) no_close (not_close, tt)) sent.1 next
      (λ n r le f. clean n r (omega (arith, le, len, size)) f))

  each_by_fault : (s : List ℕ) (frames : List KeyedFrame) (rest : List ℕ) → SplitsInto s frames rest → (fault : Option (ℕ × Reason)) → IsFaultOf role limits s fault → AllByRecursion P (events_of frames fault)
  each_by_fault s frames rest split None clean = each_after s [] frames rest split.whole tt tt split.each first (λ n r le f. clean n r f)
  each_by_fault s frames rest split (Some fault) is =
      let some : 0 < fault.0 = omega (arith, place_is role limits s fault.0 fault.1 is.fault, two_bytes is.fault.header) in
      let b = before_parts fault.0 frames some in
      let ys = ending_before fault.0 frames in
      let sent = split_all FitsTheLayout ys b.more (subst (λ (l : List KeyedFrame). AreSent l) b.parts split.each) in
      let whole : s ≡ stream_bytes ys ++ (stream_bytes b.more ++ rest) = split.whole ∙ ap (λ (l : List KeyedFrame). stream_bytes l ++ rest) b.parts ∙ ap (λ (l : List ℕ). l ++ rest) (flat_map-append frame_bytes ys b.more) ∙ append_assoc (stream_bytes ys) (stream_bytes b.more) rest in
      all-append P (events_after [] (frames_of (through_close ys))) (event.Failed fault.1 ∷ [])
      (each_after s [] ys (stream_bytes b.more ++ rest) whole tt tt sent.0 first (λ n r le f. elim (is.first n r f) [ inl late ↦ omega (arith, late, le, b.size) | inr at ↦ omega (arith, at.0, le, b.size) ]))
      (failed fault.1, tt)

  pub each_told : (s : List ℕ) (events : List Event) → HasEvents role limits s events → AllByRecursion P events
  each_told s events h = subst (λ (l : List Event). AllByRecursion P l) (sym h.are) (each_by_fault s h.frames h.rest h.split h.fault h.is_fault)
