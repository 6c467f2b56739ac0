-- Streams of valid frames have no fault, and those of others have one.
use Rattle.std.proofs.Common.{◌≡◌, ℕ, zero, suc, ◌+◌, ◌≤◌, ◌⊎◌, Bool, true, false, cond, List, [], ◌∷◌, ◌++◌, length, Option, Some, None, refl, sym, ap, ◌∙◌, arith, inl, inr, subst}
use Rattle.std.specs.Prelude.{◌==◌}
use Rattle.std.specs.List.{AllByRecursion}
use Rattle.std.proofs.lemmas.List.{length-append, append-nil, map-append}
use Rattle.std.proofs.lemmas.Grind.{flat_map-append}
use Rattle.ws_wire.specs.declared.role.Role.{Role}
use Rattle.ws_wire.specs.Header.{is_masked}
use Rattle.ws_wire.specs.Frame.{Frame, KeyedFrame, FitsTheLayout, frame_bytes, stream_bytes}
use Rattle.ws_wire.proofs.Frames.{no_frame_begins}
use Rattle.ws_text.specs.Text.{BeginsText}
use Rattle.ws_session.specs.declared.message.Message.{Message}
use Rattle.ws_session.specs.declared.reason.Reason.{Reason}
use Rattle.ws_session.specs.declared.event.Event.{Event}
use Rattle.ws_session.specs.declared.event.Event.TheVariants as event
use Rattle.ws_session.specs.Limits.{LimitsValue}
use Rattle.ws_session.specs.Messages.{is_control, is_close, data_frames, groups_of, kind_of, joined_payload, message_of, message_if_any, open_message_of}
use Rattle.ws_session.specs.Faults.{frames_of, expects_key, open_payload, IsNoClose, IsFaultAt, HasNoFault}
use Rattle.ws_session.specs.Events.{event_of_control, events_after, through_close, ending_before, events_of, IsFaultOf, HasEvents, close_in}
use Rattle.ws_session.specs.InnerNextFrame.{AreSent, HasNoFaultOfNext}
use Rattle.ws_session.specs.Messages.{kind_of, joined_payload, message_if_any}
use Rattle.ws_session.specs.Validity.{AreValidFrames, IsValidGroup, NothingAfterClose}
use Rattle.ws_session.specs.Faults.{IsOpenText, KeysFit}
use Rattle.ws_session.proofs.Faults.{fault_before, faultless_before}
use Rattle.ws_session.proofs.Next.{still_clean, fault_of_next}
use Rattle.ws_session.proofs.Fresh.{no_fault_in_nothing}
use Rattle.ws_session.proofs.Payloads.{text_of}
use Rattle.ws_session.proofs.Valid.{no_both, false_of, not_empty, all_before, NoneCloses, valid_front, valid_snoc, valid_nothing}
use Rattle.ws_session.proofs.FineFrames.{valid_is_fine}
use Rattle.ws_session.proofs.FaultlessFrames.{fine_is_valid}
use Rattle.ws_session.specs.Exchange.{last_event}
use Rattle.ws_session.proofs.Statuses.{last_snoc}

record Snoc (xs : List KeyedFrame) : Type 0 where
  pub front : List KeyedFrame
  pub last : KeyedFrame
  pub parts : xs ≡ front ++ last ∷ []

snoc_of : (xs : List KeyedFrame) → (xs ≡ []) ⊎ Snoc xs
snoc_of [] = inl refl
snoc_of (x ∷ xs) = elim (snoc_of xs) [ inl e ↦ inr (record { front = []; last = x; parts = ap (λ (l : List KeyedFrame). x ∷ l) e }) | inr s ↦ inr (record { front = x ∷ s.front; last = s.last; parts = ap (λ (l : List KeyedFrame). x ∷ l) s.parts }) ]

frames_snoc : (xs : List KeyedFrame) (x : KeyedFrame) → frames_of (xs ++ x ∷ []) ≡ frames_of xs ++ x.frame ∷ []
frames_snoc xs x = map-append (λ (y : KeyedFrame). y.frame) xs (x ∷ [])

stream_snoc : (xs : List KeyedFrame) (x : KeyedFrame) → stream_bytes (xs ++ x ∷ []) ≡ stream_bytes xs ++ frame_bytes x
stream_snoc xs x = flat_map-append frame_bytes xs (x ∷ []) ∙ ap (λ (l : List ℕ). stream_bytes xs ++ l) (append-nil (frame_bytes x))

pub no_closes : (xs : List KeyedFrame) → NoneCloses (frames_of xs) → AllByRecursion IsNoClose xs
no_closes [] h = tt
no_closes (x ∷ xs) h = (h.0, no_closes xs h.1)

nothing_after : (fs : List Frame) (f : Frame) → NothingAfterClose (fs ++ f ∷ []) → NoneCloses fs × NothingAfterClose fs
nothing_after [] f h = (tt, tt)
nothing_after (x ∷ fs) f h =
    let t = nothing_after fs f h.1 in
    let never : is_close x ≡ false = false_of (is_close x) (λ e. not_empty fs f (h.0 e)) in
    ((never, t.0), (λ e. absurd (no_both (is_close x) e never), t.1))

last_alone : (x y : KeyedFrame) (more : List ℕ) → FitsTheLayout x → FitsTheLayout y → frame_bytes x ≡ frame_bytes y ++ more → length more ≡ 0
last_alone x y more can sends e = ap (λ (l : List ℕ). length l) (sym (no_frame_begins x y [] more can sends (append-nil (frame_bytes x) ∙ e)).1)

-- ---- the events

failed_last : (es : List Event) (r : Reason) → last_event (es ++ event.Failed r ∷ []) ≡ Some (event.Failed r)
failed_last es r = last_snoc es (event.Failed r)

abbrev IsFailed : Option Event → Type 0
IsFailed (Some (event.Failed r)) = Unit {0}
IsFailed _ = ⊥

control_fails_not : (b c : Bool) (f : Frame) → IsFailed (Some (cond b (event.Close (close_in f.payload)) (cond c (event.Ping f.payload) (event.Pong f.payload)))) → ⊥
control_fails_not true c f h = h
control_fails_not false true f h = h
control_fails_not false false f h = h

event_fails_not : (a b : Bool) (f : Frame) (m : Message) → IsFailed (Some (cond a (event_of_control f) (cond b (event.Message m) event.Part))) → ⊥
event_fails_not true b f m h = control_fails_not (is_close f) (f.opcode == 9) f h
event_fails_not false true f m h = h
event_fails_not false false f m h = h

last_fails_not : (before fs : List Frame) → IsFailed (last_event (events_after before fs)) → ⊥
last_fails_not before [] h = h
last_fails_not before (f ∷ []) h = event_fails_not (is_control f) f.fin f (message_of ((groups_of (data_frames before)).unfinished ++ f ∷ [])) h
last_fails_not before (f ∷ g ∷ fs) h = last_fails_not (before ++ f ∷ []) (g ∷ fs) h

-- ---- frames and faults

module _ (role : Role) (limits : LimitsValue) where
  -- the frames before have no fault, in the stream with the next one
  before_last : (xs : List KeyedFrame) (x : KeyedFrame) → HasNoFault role limits (stream_bytes xs) → (n : ℕ) (r : Reason) → n ≤ length (stream_bytes xs) → IsFaultAt role limits (stream_bytes xs ++ frame_bytes x) n r → ⊥
  before_last xs x clean n r le f = clean n r (fault_before role limits (stream_bytes xs) (frame_bytes x) n r le f)

  valid_within : (n : ℕ) (xs : List KeyedFrame) → length xs ≤ n → AreSent xs → KeysFit role xs → AreValidFrames limits (frames_of xs) → HasNoFault role limits (stream_bytes xs)
  valid_within zero [] le each keys v = no_fault_in_nothing role limits
  valid_within zero (x ∷ xs) le each keys v = absurd (omega arith)
  valid_within (suc n) xs le each keys v =
      elim (snoc_of xs) [
        | inl e ↦ subst (λ (l : List KeyedFrame). HasNoFault role limits (stream_bytes l)) (sym e) (no_fault_in_nothing role limits)
        | inr s ↦
            let sent = all_before FitsTheLayout s.front s.last (subst (λ (l : List KeyedFrame). AreSent l) s.parts each) in
            let fit = all_before (λ (y : KeyedFrame). is_masked y.key ≡ expects_key role) s.front s.last (subst (λ (l : List KeyedFrame). KeysFit role l) s.parts keys) in
            let valid = valid_front limits (frames_of s.front) s.last.frame (subst (λ (l : List Frame). AreValidFrames limits l) (ap (λ (l : List KeyedFrame). frames_of l) s.parts ∙ frames_snoc s.front s.last) v) in
            let shorter : length s.front ≤ n = omega (arith, ap (λ (l : List KeyedFrame). length l) s.parts, length-append s.front (s.last ∷ [])) in
            let clean = valid_within n s.front shorter sent.0 fit.0 valid.before in
            subst (λ (l : List ℕ). HasNoFault role limits l) (sym (ap (λ (l : List KeyedFrame). stream_bytes l) s.parts ∙ stream_snoc s.front s.last))
            (still_clean role limits s.front (frame_bytes s.last) sent.0 (no_closes s.front valid.none) (before_last s.front s.last clean)
            (valid_is_fine role limits (open_message_of (frames_of s.front)) s.last sent.1 fit.1 valid.next) (λ y more sends e. last_alone s.last y more sent.1 sends e))
      ]

  pub valid_has_none : (xs : List KeyedFrame) → AreSent xs → KeysFit role xs → AreValidFrames limits (frames_of xs) → HasNoFault role limits (stream_bytes xs)
  valid_has_none xs each keys v = valid_within (length xs) xs (omega arith) each keys v

  open_begins_of : (u : List Frame) → IsValidGroup BeginsText limits u → IsOpenText (message_if_any u) → BeginsText (open_payload (message_if_any u))
  open_begins_of [] v is = absurd is
  open_begins_of (x ∷ u) v is = text_of (kind_of x.opcode) (BeginsText (joined_payload (x ∷ u))) is v.text

  invalid_within : (n : ℕ) (xs : List KeyedFrame) → length xs ≤ n → AreSent xs → KeysFit role xs → NothingAfterClose (frames_of xs) → HasNoFault role limits (stream_bytes xs) → (AreValidFrames limits (frames_of xs) → ⊥) → ⊥
  invalid_within zero [] le each keys after clean h = h (valid_nothing limits)
  invalid_within zero (x ∷ xs) le each keys after clean h = absurd (omega arith)
  invalid_within (suc n) xs le each keys after clean h =
      elim (snoc_of xs) [
        | inl e ↦ h (subst (λ (l : List KeyedFrame). AreValidFrames limits (frames_of l)) (sym e) (valid_nothing limits))
        | inr s ↦
            let sent = all_before FitsTheLayout s.front s.last (subst (λ (l : List KeyedFrame). AreSent l) s.parts each) in
            let fit = all_before (λ (y : KeyedFrame). is_masked y.key ≡ expects_key role) s.front s.last (subst (λ (l : List KeyedFrame). KeysFit role l) s.parts keys) in
            let frames = ap (λ (l : List KeyedFrame). frames_of l) s.parts ∙ frames_snoc s.front s.last in
            let last = nothing_after (frames_of s.front) s.last.frame (subst (λ (l : List Frame). NothingAfterClose l) frames after) in
            let shorter : length s.front ≤ n = omega (arith, ap (λ (l : List KeyedFrame). length l) s.parts, length-append s.front (s.last ∷ [])) in
            let here : HasNoFault role limits (stream_bytes s.front ++ frame_bytes s.last) = subst (λ (l : List ℕ). HasNoFault role limits l) (ap (λ (l : List KeyedFrame). stream_bytes l) s.parts ∙ stream_snoc s.front s.last) clean in
            let front : HasNoFault role limits (stream_bytes s.front) = faultless_before role limits (stream_bytes s.front) (frame_bytes s.last) here in
            let fine : HasNoFaultOfNext role limits (open_message_of (frames_of s.front)) (frame_bytes s.last) = λ k r f. here (length (stream_bytes s.front) + k) r (fault_of_next role limits s.front (frame_bytes s.last) sent.0 (no_closes s.front last.0) (before_last s.front s.last front) k r f) in
            invalid_within n s.front shorter sent.0 fit.0 last.1 front (λ v.
            fine_is_valid role limits (open_message_of (frames_of s.front)) s.last sent.1 fine (open_begins_of (groups_of (data_frames (frames_of s.front))).unfinished v.unfinished)
            (λ next. h (subst (λ (l : List Frame). AreValidFrames limits l) (sym frames) (valid_snoc limits (frames_of s.front) s.last.frame v last.0 next))))
      ]

  pub invalid_has_one : (xs : List KeyedFrame) → AreSent xs → KeysFit role xs → NothingAfterClose (frames_of xs) → (AreValidFrames limits (frames_of xs) → ⊥) → HasNoFault role limits (stream_bytes xs) → ⊥
  invalid_has_one xs each keys after h clean = invalid_within (length xs) xs (omega arith) each keys after clean h

  failed_by : (xs : List KeyedFrame) → AreSent xs → KeysFit role xs → NothingAfterClose (frames_of xs) → (frames : List KeyedFrame) (events : List Event) (f : Option (ℕ × Reason)) → IsFaultOf role limits (stream_bytes xs) f → events ≡ events_of frames f
      → ((AreValidFrames limits (frames_of xs) → ⊥) → (reason : Reason) × (last_event events ≡ Some (event.Failed reason))) × ((reason : Reason) × (last_event events ≡ Some (event.Failed reason)) → AreValidFrames limits (frames_of xs) → ⊥)
  failed_by xs each keys after frames events None is are = (
    λ h. absurd (invalid_has_one xs each keys after h is),
    λ last v. last_fails_not [] (frames_of (through_close frames)) (subst (λ (o : Option Event). IsFailed o) (sym last.1 ∙ ap (λ (l : List Event). last_event l) are) tt),
  )
  failed_by xs each keys after frames events (Some f) is are = (
    λ h. (f.1, ap (λ (l : List Event). last_event l) are ∙ failed_last (events_after [] (frames_of (through_close (ending_before f.0 frames)))) f.1),
    λ last v. valid_has_none xs each keys v f.0 f.1 is.fault,
  )

  pub failed_exactly : (xs : List KeyedFrame) (events : List Event) → AreSent xs → KeysFit role xs → NothingAfterClose (frames_of xs) → HasEvents role limits (stream_bytes xs) events
      → ((AreValidFrames limits (frames_of xs) → ⊥) → (reason : Reason) × (last_event events ≡ Some (event.Failed reason))) × ((reason : Reason) × (last_event events ≡ Some (event.Failed reason)) → AreValidFrames limits (frames_of xs) → ⊥)
  failed_exactly xs events each keys after h = failed_by xs each keys after h.frames events h.fault h.is_fault h.are
