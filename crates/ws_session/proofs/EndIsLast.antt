-- A close or a fault is the last event of a stream.
use Rattle.std.proofs.Common.{◌≡◌, ℕ, ◌<◌, Bool, true, false, cond, List, [], ◌∷◌, ◌++◌, drop, Option, Some, None, refl, sym, ap, ◌∙◌, arith, inl, inr, subst}
use Rattle.std.specs.List.{AllByRecursion}
use Rattle.ws_wire.specs.declared.role.Role.{Role}
use Rattle.ws_wire.specs.Header.{header_bytes}
use Rattle.ws_wire.specs.Masking.{masked_payload}
use Rattle.ws_wire.specs.Frame.{Frame, KeyedFrame, stream_bytes}
use Rattle.ws_wire.specs.Stream.{SplitsInto}
use Rattle.ws_text.specs.Close.{CloseValue}
use Rattle.ws_session.specs.declared.reason.Reason.{Reason}
use Rattle.ws_session.specs.declared.event.Event.{Event}
use Rattle.ws_session.specs.declared.event.Event.TheVariants as event
use Rattle.ws_session.specs.Limits.{LimitsValue}
use Rattle.ws_session.specs.Messages.{is_close}
use Rattle.ws_session.specs.Faults.{frames_of, IsNoClose, IsFirstFault}
use Rattle.ws_session.specs.Events.{events_after, through_close, ending_before, events_of, IsFaultOf, HasEvents}
use Rattle.ws_session.proofs.Streams.{ending_before_stops}
use Rattle.ws_session.proofs.Places.{compare_frames, fault_parts, part_of}
use Rattle.ws_session.proofs.Next.{place_is, part_within, two_bytes}
use Rattle.ws_session.proofs.Statuses.{Ends}
use Rattle.ws_session.proofs.OneMoreFrame.{through_close_same}
use Rattle.ws_session.proofs.Over.{event_ends_not}
use Rattle.ws_session.proofs.Within.{split_all}
use Rattle.ws_session.proofs.ToldFrames.{before_parts}

-- nothing follows an event that ends
abbrev OnlyLastEnds : List Event → Type 0
OnlyLastEnds [] = Unit {0}
OnlyLastEnds (e ∷ es) = (Ends e → es ≡ []) × OnlyLastEnds es

last_by : (b : Bool) (before : List Frame) (x : KeyedFrame) (xs : List KeyedFrame) → is_close x.frame ≡ b → OnlyLastEnds (events_after (before ++ x.frame ∷ []) (frames_of (through_close xs)))
    → OnlyLastEnds (events_after before (frames_of (cond b (x ∷ []) (x ∷ through_close xs))))
last_by true before x xs e later = (λ ends. refl, tt)
last_by false before x xs e later = (λ ends. absurd (event_ends_not before x.frame e ends), later)

of_frames : (before : List Frame) (xs : List KeyedFrame) → OnlyLastEnds (events_after before (frames_of (through_close xs)))
of_frames before [] = tt
of_frames before (x ∷ xs) = last_by (is_close x.frame) before x xs refl (of_frames (before ++ x.frame ∷ []) xs)

of_fault : (before : List Frame) (xs : List KeyedFrame) (r : Reason) → AllByRecursion IsNoClose xs → OnlyLastEnds (events_after before (frames_of xs) ++ event.Failed r ∷ [])
of_fault before [] r h = (λ ends. refl, tt)
of_fault before (x ∷ xs) r h = (λ ends. absurd (event_ends_not before x.frame h.0 ends), of_fault (before ++ x.frame ∷ []) xs r h.1)

front_closes_not : (n : ℕ) (xs : List KeyedFrame) → 0 < n → AllByRecursion IsNoClose xs → AllByRecursion IsNoClose (ending_before n xs)
front_closes_not n xs some h =
    let b = before_parts n xs some in
    (split_all IsNoClose (ending_before n xs) b.more (subst (λ (l : List KeyedFrame). AllByRecursion IsNoClose l) b.parts h)).0

-- no close ends before the first fault
none_closes_before : (role : Role) (limits : LimitsValue) (s : List ℕ) (xs : List KeyedFrame) (rest : List ℕ) (n : ℕ) (r : Reason) → SplitsInto s xs rest → IsFirstFault role limits s n r → AllByRecursion IsNoClose (ending_before n xs)
none_closes_before role limits s xs rest n r split first =
    let f = first.fault in
    let at = place_is role limits s n r f in
    let some : 0 < n = omega (arith, at, two_bytes f.header) in
    let behind = header_bytes f.header ++ (masked_payload f.header.key f.payload ++ drop n s) in
    elim (compare_frames xs f.before rest behind split.each f.sent (sym split.whole ∙ fault_parts role limits s n r f)) [
      | inl b ↦ front_closes_not n xs some (split_all IsNoClose xs b.more (subst (λ (l : List KeyedFrame). AllByRecursion IsNoClose l) b.frames f.no_close)).0
      | inr w ↦
          let part = part_of f.header f.payload (drop n s) w.next (stream_bytes w.more ++ rest) f.is_header w.is_sent f.within w.bytes in
          let le = part_within f.header f.payload w.next part in
          let stops : ending_before n xs ≡ ending_before n f.before = ap (λ (l : List KeyedFrame). ending_before n l) w.frames ∙ ending_before_stops n f.before w.next w.more (omega (arith, at, le)) in
          subst (λ (l : List KeyedFrame). AllByRecursion IsNoClose l) (sym stops) (front_closes_not n f.before some f.no_close)
    ]

of_events : (role : Role) (limits : LimitsValue) (s : List ℕ) (xs : List KeyedFrame) (rest : List ℕ) (fault : Option (ℕ × Reason)) → SplitsInto s xs rest → IsFaultOf role limits s fault → OnlyLastEnds (events_of xs fault)
of_events role limits s xs rest None split is = of_frames [] xs
of_events role limits s xs rest (Some fault) split is =
    let none = none_closes_before role limits s xs rest fault.0 fault.1 split is in
    subst (λ (l : List KeyedFrame). OnlyLastEnds (events_after [] (frames_of l) ++ event.Failed fault.1 ∷ [])) (sym (through_close_same (ending_before fault.0 xs) none)) (of_fault [] (ending_before fault.0 xs) fault.1 none)

nothing_later : (events : List Event) (e : Event) (later : List Event) → Ends e → OnlyLastEnds (events ++ e ∷ later) → later ≡ []
nothing_later [] e later ends h = h.0 ends
nothing_later (x ∷ events) e later ends h = nothing_later events e later ends h.1

ends_last : (role : Role) (limits : LimitsValue) (s : List ℕ) (events : List Event) (e : Event) (later : List Event) → Ends e → HasEvents role limits s (events ++ e ∷ later) → later ≡ []
ends_last role limits s events e later ends h =
    nothing_later events e later ends (subst (λ (l : List Event). OnlyLastEnds l) (sym h.are) (of_events role limits s h.frames h.rest h.fault h.split h.is_fault))

pub close_ends : (role : Role) (limits : LimitsValue) (s : List ℕ) (events later : List Event) (close : Option CloseValue) → HasEvents role limits s (events ++ event.Close close ∷ later) → later ≡ []
close_ends role limits s events later close h = ends_last role limits s events (event.Close close) later tt h

pub fault_ends : (role : Role) (limits : LimitsValue) (s : List ℕ) (events later : List Event) (reason : Reason) → HasEvents role limits s (events ++ event.Failed reason ∷ later) → later ≡ []
fault_ends role limits s events later reason h = ends_last role limits s events (event.Failed reason) later tt h
