-- Bytes of which neither a close nor a fault is told, and the event of a few bytes more: it is of the frame behind.
use Rattle.std.proofs.Common.{◌≡◌, ◌∙◌, ℕ, suc, ◌+◌, ◌-◌, ◌<◌, ◌≤◌, List, [], ◌∷◌, ◌++◌, length, take, drop}
use Rattle.std.proofs.Common.{flat_map, Option, None, Some, ap, sym, refl, subst, inl, inr, arith, append-nil}
use Rattle.std.proofs.Common.{append_assoc}
use Rattle.std.proofs.lemmas.Bool.{cases_lt}
use Rattle.std.proofs.lemmas.Grind.{flat_map-append}
use Rattle.std.proofs.lemmas.List.{length-append, length-take-le, take-append-drop, take-append-le, take_at}
use Rattle.std.proofs.Math.Seq.{take-append-add}
use Rattle.ws_wire.specs.declared.role.Role.{Role}
use Rattle.ws_wire.specs.Header.{header_bytes}
use Rattle.ws_wire.specs.Masking.{masked_payload}
use Rattle.ws_wire.specs.Frame.{FitsTheLayout, Frame, KeyedFrame, frame_bytes, stream_bytes}
use Rattle.ws_wire.specs.Stream.{SplitsInto}
use Rattle.ws_wire.proofs.Frames.{none_begins}
use Rattle.ws_wire.proofs.Splits.{all-append, split_is_one}
use Rattle.ws_text.specs.Close.{CloseValue}
use Rattle.ws_session.specs.declared.event.Event.{Event}
use Rattle.ws_session.specs.declared.event.Event.TheVariants as event
use Rattle.ws_session.specs.declared.reason.Reason.{Reason}
use Rattle.ws_session.specs.Limits.{LimitsValue}
use Rattle.ws_session.specs.Events.{HasEvents, IsFaultOf, close_in, ending_before, events_after, events_of}
use Rattle.ws_session.specs.Events.{through_close}
use Rattle.ws_session.specs.Exchange.{last_event}
use Rattle.ws_session.specs.Faults.{HasNoFault, IsFaultAt, IsFirstFault, frames_of}
use Rattle.ws_session.specs.InnerNextFrame.{AreSent}
use Rattle.ws_session.proofs.EventsGoOn.{events_front, one_events}
use Rattle.ws_session.proofs.Faults.{fault_before}
use Rattle.ws_session.proofs.Next.{length-stream_bytes, part_within, place_is, two_bytes}
use Rattle.ws_session.proofs.OneMoreFrame.{none_in_nothing, through_close_same}
use Rattle.ws_session.proofs.Over.{EndsLast, last_ends_not}
use Rattle.ws_session.proofs.Places.{compare_frames, fault_parts, part_of}
use Rattle.ws_session.proofs.Statuses.{Ends, closes_or_not, closing_events, last_snoc}
use Rattle.ws_session.proofs.Streams.{goes_on}
use Rattle.ws_suite.specs.Evidence.{ending_in}
use Rattle.ws_suite.proofs.EvidenceLemmas.{no_items}

-- ---- what ends events

back_is_empty : {X : Type 0} (a b : List X) → a ++ b ≡ [] → b ≡ []
back_is_empty [] b none = none
back_is_empty (x ∷ a) b none = absurd cc

one_ending : (e : Event) → Ends e → flat_map ending_in (e ∷ []) ≡ [] → ⊥
one_ending event.Part ends none = ends
one_ending (event.Message message) ends none = ends
one_ending (event.Ping payload) ends none = ends
one_ending (event.Pong payload) ends none = ends
one_ending (event.Close close) ends none = absurd cc
one_ending (event.Failed reason) ends none = absurd cc

-- a close or a fault is an ending
pub ends_so : (events : List Event) (e : Event) → Ends e → flat_map ending_in (events ++ e ∷ []) ≡ [] → ⊥
ends_so events e ends none = one_ending e ends (back_is_empty (flat_map ending_in events) (flat_map ending_in (e ∷ []))
    (sym (flat_map-append ending_in events (e ∷ [])) ∙ none))

abbrev event_in : Event → Option Event → Event
event_in e None = e
event_in e (Some f) = f

-- one event is the last
pub same_last : (es fs : List Event) (e f : Event) → es ++ e ∷ [] ≡ fs ++ f ∷ [] → e ≡ f
same_last es fs e f same = ap (λ (o : Option Event). event_in e o)
    (sym (last_snoc es e) ∙ ap (λ (l : List Event). last_event l) same ∙ last_snoc fs f)

-- the events of frames up to a close hold no fault
pub failed_not : (frames : List KeyedFrame) (events : List Event) (reason : Reason)
    → events ++ event.Failed reason ∷ [] ≡ events_of frames None → ⊥
failed_not frames events reason same =
    elim (closes_or_not frames) [
      | inl unclosed ↦
          let all : events ++ event.Failed reason ∷ [] ≡ events_after [] (frames_of frames) =
          same ∙ ap (λ (l : List KeyedFrame). events_after [] (frames_of l)) (through_close_same frames unclosed) in
          let last = sym (last_snoc events (event.Failed reason)) ∙ ap (λ (l : List Event). last_event l) all in
          last_ends_not [] frames unclosed (subst (λ (o : Option Event). EndsLast o) last tt)
      | inr c ↦
          let close = event.Close (close_in c.last.frame.payload) in
          let clash : event.Failed reason ≡ close = same_last events (events_after [] (frames_of c.before))
          (event.Failed reason) close (same ∙ closing_events frames c) in
          absurd cc
    ]

-- where a close comes last there is no fault
pub closed_has_no_fault : (role : Role) (limits : LimitsValue) (bytes : List ℕ) (events : List Event)
    (close : Option CloseValue) → HasEvents role limits bytes (events ++ event.Close close ∷ [])
    → (reason : Reason) (place : ℕ) → IsFirstFault role limits bytes place reason → ⊥
closed_has_no_fault role limits bytes events close h = by h.fault h.is_fault h.are
  where
    by : (fault : Option (ℕ × Reason)) → IsFaultOf role limits bytes fault
        → events ++ event.Close close ∷ [] ≡ events_of h.frames fault
        → (reason : Reason) (place : ℕ) → IsFirstFault role limits bytes place reason → ⊥
    by None is are reason place f = is place reason f.fault
    by (Some fault) is are reason place f =
        let told = events_after [] (frames_of (through_close (ending_before fault.0 h.frames))) in
        let clash : event.Close close ≡ event.Failed fault.1 =
        same_last events told (event.Close close) (event.Failed fault.1) are in
        absurd cc

-- ---- bytes whose events go on

as_many : (before : List Frame) (frames : List KeyedFrame)
    → length (events_after before (frames_of frames)) ≡ length frames
as_many before [] = refl
as_many before (x ∷ frames) = ap suc (as_many (before ++ x.frame ∷ []) frames)

-- each of the whole frames tells one event, and there is no fault
pub record IsQuiet (role : Role) (limits : LimitsValue) (bytes : List ℕ) (events : List Event) : Type 0 where
  pub frames : List KeyedFrame
  pub rest : List ℕ
  pub split : SplitsInto bytes frames rest
  pub clean : HasNoFault role limits bytes
  pub each : length events ≡ length frames

quiet_by : (role : Role) (limits : LimitsValue) (bytes : List ℕ) (events : List Event) (frames : List KeyedFrame)
    (rest : List ℕ) → SplitsInto bytes frames rest → (fault : Option (ℕ × Reason)) → IsFaultOf role limits bytes fault
    → events ≡ events_of frames fault → flat_map ending_in events ≡ [] → IsQuiet role limits bytes events
quiet_by role limits bytes events frames rest split None is are none =
    elim (closes_or_not frames) [
      | inl unclosed ↦
          let all : events ≡ events_after [] (frames_of frames) =
          are ∙ ap (λ (l : List KeyedFrame). events_after [] (frames_of l)) (through_close_same frames unclosed) in
          record {
            frames = frames;
            rest = rest;
            split = split;
            clean = is;
            each = ap (λ (l : List Event). length l) all ∙ as_many [] frames;
          }
      | inr c ↦ absurd (ends_so (events_after [] (frames_of c.before)) (event.Close (close_in c.last.frame.payload)) tt
          (ap (λ (l : List Event). flat_map ending_in l) (sym (are ∙ closing_events frames c)) ∙ none))
    ]
quiet_by role limits bytes events frames rest split (Some fault) is are none =
    let told = events_after [] (frames_of (through_close (ending_before fault.0 frames))) in
    absurd (ends_so told (event.Failed fault.1) tt (ap (λ (l : List Event). flat_map ending_in l) (sym are) ∙ none))

pub quiet : (role : Role) (limits : LimitsValue) (bytes : List ℕ) (events : List Event)
    → HasEvents role limits bytes events → flat_map ending_in events ≡ [] → IsQuiet role limits bytes events
quiet role limits bytes events h none =
    quiet_by role limits bytes events h.frames h.rest h.split h.fault h.is_fault h.are none

-- ---- an event more

-- whole frames came, and then a few bytes, of which none but all tell more
module _ (role : Role) (limits : LimitsValue) (s p : List ℕ) (events : List Event)
    (has : HasEvents role limits s events)
    (least : (n : ℕ) → n < length p → HasEvents role limits (s ++ take n p) events) where
  -- fewer bytes don't have the event
  pub fewest_have : (e : Event) (n : ℕ) → n < length s + length p
      → HasEvents role limits (take n (s ++ p)) (events ++ e ∷ []) → ⊥
  fewest_have e n less h =
      let more = events ++ e ∷ [] in
      elim (cases_lt n (length s)) [
        | inl early ↦
            let front : take n (s ++ p) ≡ take n s = take-append-le n s p (omega (arith, early)) in
            let whole = subst (λ (l : List ℕ). HasEvents role limits l events) (sym (take-append-drop n s)) has in
            let longer = events_front role limits (take n s) (drop n s) more events
            (subst (λ (l : List ℕ). HasEvents role limits l more) front h) whole in
            omega (
              arith,
              ap (λ (l : List Event). length l) longer.1,
              length-append more longer.0,
              length-append events (e ∷ []),
            )
        | inr late ↦
            let k = n - length s in
            let n_is : n ≡ length s + k = omega (arith, late) in
            let at : take n (s ++ p) ≡ s ++ take k p =
            ap (λ (m : ℕ). take m (s ++ p)) n_is ∙ take-append-add s p k in
            let one = one_events role limits (s ++ take k p) more events
            (subst (λ (l : List ℕ). HasEvents role limits l more) at h) (least k (omega (arith, less, n_is))) in
            omega (arith, ap (λ (l : List Event). length l) one, length-append events (e ∷ []))
      ]

  module _ (going : flat_map ending_in events ≡ []) (frames : List KeyedFrame) (split : SplitsInto s frames []) where
    bytes_are : s ≡ stream_bytes frames
    bytes_are = split.whole ∙ append-nil (stream_bytes frames)

    before : IsQuiet role limits s events
    before = quiet role limits s events has going

    each_before : length events ≡ length frames
    each_before =
        let same = split_is_one FitsTheLayout frame_bytes none_begins s before.frames frames before.rest []
        before.split split in
        before.each ∙ ap (λ (l : List KeyedFrame). length l) same.0

    -- no whole frame stands at the front of the few bytes with others behind it
    none_in_front : (later : List KeyedFrame) (b : List ℕ) → AreSent later → p ≡ stream_bytes later ++ b
        → 0 < length b → later ≡ []
    none_in_front later b sent parts some =
        let n = length (stream_bytes later) in
        let size = ap (λ (l : List ℕ). length l) parts ∙ length-append (stream_bytes later) b in
        let front : take n p ≡ stream_bytes later =
        ap (λ (l : List ℕ). take n l) parts ∙ take_at (stream_bytes later) b n refl in
        let bytes = s ++ take n p in
        let here = quiet role limits bytes events (least n (omega (arith, size, some))) going in
        let whole : bytes ≡ stream_bytes (frames ++ later) ++ [] =
        ap (λ (l : List ℕ). l ++ take n p) bytes_are ∙ ap (λ (l : List ℕ). stream_bytes frames ++ l) front
        ∙ sym (flat_map-append frame_bytes frames later) ∙ sym (append-nil (stream_bytes (frames ++ later))) in
        let again : SplitsInto bytes (frames ++ later) [] = record {
          each = all-append FitsTheLayout frames later split.each sent;
          whole = whole;
          left = none_in_nothing;
        } in
        let same = split_is_one FitsTheLayout frame_bytes none_begins bytes here.frames (frames ++ later) here.rest []
        here.split again in
        no_items later (omega (
          arith,
          here.each,
          each_before,
          ap (λ (l : List KeyedFrame). length l) same.0,
          length-append frames later,
        ))

    -- with an event that goes on the bytes are whole frames again
    pub still_whole : (e : Event) → HasEvents role limits (s ++ p) (events ++ e ∷ [])
        → flat_map ending_in (events ++ e ∷ []) ≡ [] → (all : List KeyedFrame) × SplitsInto (s ++ p) all []
    still_whole e now on =
        let q = quiet role limits (s ++ p) (events ++ e ∷ []) now on in
        let parts : stream_bytes frames ++ p ≡ stream_bytes q.frames ++ q.rest =
        ap (λ (l : List ℕ). l ++ p) (sym bytes_are) ∙ q.split.whole in
        let g = goes_on frames q.frames p q.rest split.each q.split.each q.split.left parts in
        let more = ap (λ (l : List KeyedFrame). length l) g.frames ∙ length-append frames g.later in
        let no_rest : q.rest ≡ [] = elim (cases_lt 0 (length q.rest)) [
          | inl some ↦
              let none = none_in_front g.later q.rest g.sent g.bytes some in
              absurd (omega (
                arith,
                more,
                ap (λ (l : List KeyedFrame). length l) none,
                q.each,
                each_before,
                length-append events (e ∷ []),
              ))
          | inr none ↦ no_items q.rest none
        ] in
        (q.frames, subst (λ (l : List ℕ). SplitsInto (s ++ p) q.frames l) no_rest q.split)

    -- a fault that they have is of the frame behind those
    fault_behind : (place : ℕ) (reason : Reason) (f : IsFaultAt role limits (s ++ p) place reason)
        → length (stream_bytes f.before) ≡ length s
    fault_behind place reason f =
        let payload = masked_payload f.header.key f.payload ++ drop place (s ++ p) in
        let tail = header_bytes f.header ++ payload in
        let parts : stream_bytes frames ++ p ≡ stream_bytes f.before ++ tail =
        ap (λ (l : List ℕ). l ++ p) (sym bytes_are) ∙ fault_parts role limits (s ++ p) place reason f in
        let same = ap (λ (l : List ℕ). length l) bytes_are in
        elim (compare_frames frames f.before p tail split.each f.sent parts) [
          | inl h ↦
              let some : 0 < length tail =
              omega (arith, two_bytes f.header, length-append (header_bytes f.header) payload) in
              let none = none_in_front h.more tail h.sent h.bytes some in
              let are : f.before ≡ frames =
              h.frames ∙ ap (λ (l : List KeyedFrame). frames ++ l) none ∙ append-nil frames in
              ap (λ (l : List KeyedFrame). length (stream_bytes l)) are ∙ sym same
          | inr h ↦
              let part = part_of f.header f.payload (drop place (s ++ p)) h.next (stream_bytes h.more ++ p) f.is_header
              h.is_sent f.within h.bytes in
              let within = part_within f.header f.payload h.next part in
              let at = place_is role limits (s ++ p) place reason f in
              let all = ap (λ (l : List KeyedFrame). length (stream_bytes l)) h.frames
              ∙ length-stream_bytes f.before h.next h.more in
              let early : place ≤ length s = omega (arith, at, within, all, same) in
              absurd (before.clean place reason (fault_before role limits s p place reason early f))
        ]

    -- it is told with their last byte
    pub fails_with_last : (place : ℕ) (reason : Reason) → IsFaultAt role limits (s ++ p) place reason
        → place ≡ length (s ++ p)
    fails_with_last place reason f =
        let at = fault_behind place reason f in
        let place_at = place_is role limits (s ++ p) place reason f in
        elim (cases_lt place (length (s ++ p))) [
          | inr most ↦ omega (arith, most, f.long)
          | inl less ↦
              let n = place - length s in
              let n_is : place ≡ length s + n = omega (arith, at, place_at) in
              let short : n < length p = omega (arith, less, n_is, length-append s p) in
              let bytes = s ++ take n p in
              let size : length bytes ≡ place =
              omega (arith, n_is, length-append s (take n p), length-take-le n p (omega (arith, short))) in
              let here = quiet role limits bytes events (least n short) going in
              let whole : s ++ p ≡ bytes ++ drop n p =
              ap (λ (l : List ℕ). s ++ l) (sym (take-append-drop n p)) ∙ sym (append_assoc s (take n p) (drop n p)) in
              absurd (here.clean place reason (fault_before role limits bytes (drop n p) place reason
              (omega (arith, size)) (subst (λ (l : List ℕ). IsFaultAt role limits l place reason) whole f)))
        ]

    -- so where they fail
    pub fails_here : (reason : Reason) → HasEvents role limits (s ++ p) (events ++ event.Failed reason ∷ [])
        → (place : ℕ) × (found : IsFirstFault role limits (s ++ p) place reason)
        × (length (stream_bytes found.fault.before) ≡ length s)
    fails_here reason now = by now.fault now.is_fault now.are
      where
        by : (fault : Option (ℕ × Reason)) → IsFaultOf role limits (s ++ p) fault
            → events ++ event.Failed reason ∷ [] ≡ events_of now.frames fault
            → (place : ℕ) × (found : IsFirstFault role limits (s ++ p) place reason)
            × (length (stream_bytes found.fault.before) ≡ length s)
        by None is are = absurd (failed_not now.frames events reason are)
        by (Some fault) is are =
            let told = events_after [] (frames_of (through_close (ending_before fault.0 now.frames))) in
            let last : event.Failed reason ≡ event.Failed fault.1 =
            same_last events told (event.Failed reason) (event.Failed fault.1) are in
            let same : fault.1 ≡ reason = cc in
            let found = subst (λ (r : Reason). IsFirstFault role limits (s ++ p) fault.0 r) same is in
            (fault.0, found, fault_behind fault.0 reason found.fault)
