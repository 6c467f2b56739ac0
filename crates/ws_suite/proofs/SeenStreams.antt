-- What is seen of a stream, with a few bytes more, and in the end.
use Rattle.std.proofs.Common.{◌≡◌, ◌∙◌, ◌⊎◌, ℕ, zero, suc, ◌+◌, ◌-◌, ◌<◌, ◌≤◌, Bool, true, false, List, [], ◌∷◌}
use Rattle.std.proofs.Common.{length, take, drop, flat_map, Option, None, Some, ap, sym, refl, subst, inl, inr}
use Rattle.std.proofs.Common.{◌++◌, arith, append-nil, append_assoc, get_or, map}
use Rattle.std.proofs.lemmas.Bool.{cases_lt}
use Rattle.std.proofs.lemmas.Grind.{flat_map-append}
use Rattle.std.proofs.lemmas.List.{drop-take, length-append, length-drop, length-take-le, take-append-drop}
use Rattle.std.proofs.lemmas.List.{take-append-le, take-take, take_all}
use Rattle.std.proofs.Math.Seq.{take-append-add}
use Rattle.std.specs.List.{concat, last_or}
use Rattle.std.specs.Prelude.{option_to_list}
use Rattle.ws_wire.specs.declared.role.Role.{Role}
use Rattle.ws_wire.specs.Frame.{Frame, KeyedFrame}
use Rattle.ws_wire.specs.Stream.{SplitsInto}
use Rattle.ws_text.specs.Close.{CloseValue}
use Rattle.ws_session.specs.declared.event.Event.{Event}
use Rattle.ws_session.specs.declared.event.Event.TheVariants as event
use Rattle.ws_session.specs.declared.event.Taken.{Taken}
use Rattle.ws_session.specs.declared.payload_room.EventKind.{EventKind}
use Rattle.ws_session.specs.declared.payload_room.EventKind.TheVariants as kind
use Rattle.ws_session.specs.declared.reason.Reason.{Reason}
use Rattle.ws_session.specs.declared.status.Status.{Status}
use Rattle.ws_session.specs.Limits.{LimitsValue}
use Rattle.ws_session.specs.Events.{HasEvents, IsFaultOf, ending_before, events_after, events_of, through_close}
use Rattle.ws_session.specs.Exchange.{HasExchanged, SessionValue, is_over, status_of}
use Rattle.ws_session.specs.Faults.{IsFirstFault, frames_of}
use Rattle.ws_session.specs.Lent.{event_if_any, event_in}
use Rattle.ws_session.specs.Replies.{replies_by, reply_to}
use Rattle.ws_session.specs.Sends.{most_limits}
use Rattle.ws_session.specs.Taking.{HasTaken, Takes, TakesNothing}
use Rattle.ws_session.proofs.EventsGoOn.{one_events}
use Rattle.ws_session.proofs.Faults.{first_stays}
use Rattle.ws_session.proofs.OneMoreFrame.{none_in_nothing}
use Rattle.ws_session.proofs.Statuses.{Ends, no_end}
use Rattle.ws_scripts.specs.declared.transcript.Turn.{Turn}
use Rattle.ws_suite.specs.declared.evidence.Ending.{Ending}
use Rattle.ws_suite.specs.declared.evidence.collecting.Way.{Way}
use Rattle.ws_suite.specs.declared.evidence.streams.StreamEnd.{StreamEnd}
use Rattle.ws_suite.specs.declared.evidence.streams.StreamEnd.TheVariants as stream
use Rattle.ws_suite.specs.declared.evidence.streams.Seen.{Seen}
use Rattle.ws_suite.specs.Evidence.{ending_in}
use Rattle.ws_suite.specs.InnerCollecting.{way_bytes}
use Rattle.ws_suite.specs.InnerMarks.{EndsSo, FailsWithByte, HasSeenBytes, IsSeen, left_open, nothing_seen}
use Rattle.ws_suite.specs.InnerMarks.{seen_if_any, seen_more, seen_with}
use Rattle.ws_suite.specs.Marks.{leaves_open}
use Rattle.ws_suite.proofs.EvidenceLemmas.{last_joined}
use Rattle.ws_suite.proofs.QuietStreams.{closed_has_no_fault, ends_so, failed_not, fails_here, fails_with_last, fewest_have}
use Rattle.ws_suite.proofs.QuietStreams.{still_whole}
use Rattle.ws_suite.proofs.TurnBytes.{bytes_before, bytes_more, bytes_of_all}
use Rattle.ws_suite.proofs.TurnsCollected.{no_events}

no_bytes : (n : ℕ) → take {A = ℕ} n [] ≡ []
no_bytes zero = refl
no_bytes (suc n) = refl

-- nothing is seen of no bytes
pub seen_at_start : (role : Role) (session : SessionValue) → session.role ≡ role → session.limits ≡ most_limits
    → HasExchanged session [] [] false → HasSeenBytes role session [] nothing_seen
seen_at_start role session same limits exchanged = record {
  sent = [];
  events = [];
  exchanged = exchanged;
  same_role = same;
  limits = limits;
  place = refl;
  left = refl;
  ends = refl;
  fails = tt;
  order = omega arith;
  within = omega arith;
  quiet = λ n le. subst (λ (l : List ℕ). HasEvents role most_limits l []) (sym (no_bytes n))
      (no_events role most_limits);
  fewest = λ n less h. omega (arith, less);
  whole = λ e. ([], record { each = tt; whole = refl; left = none_in_nothing });
  over = inl refl;
}

-- ---- the events of a session are those of its role

at_role : (v : SessionValue) (role : Role) → v.role ≡ role → v.limits ≡ most_limits → (bytes : List ℕ)
    (events : List Event) → HasEvents v.role v.limits bytes events → HasEvents role most_limits bytes events
at_role v role same limits bytes events h =
    subst (λ (k : LimitsValue). HasEvents role k bytes events) limits
    (subst (λ (r : Role). HasEvents r v.limits bytes events) same h)

of_role : (v : SessionValue) (role : Role) → v.role ≡ role → v.limits ≡ most_limits → (bytes : List ℕ)
    (events : List Event) → HasEvents role most_limits bytes events → HasEvents v.role v.limits bytes events
of_role v role same limits bytes events h =
    subst (λ (r : Role). HasEvents r v.limits bytes events) (sym same)
    (subst (λ (k : LimitsValue). HasEvents role k bytes events) (sym limits) h)

-- ---- what one event more changes

opens_more : (events : List Event) (e : Event)
    → flat_map leaves_open (events ++ e ∷ []) ≡ flat_map leaves_open events ++ leaves_open e
opens_more events e =
    flat_map-append leaves_open events (e ∷ [])
    ∙ ap (λ (l : List Bool). flat_map leaves_open events ++ l) (append-nil (leaves_open e))

-- a frame of a message
opens_one : (events : List Event) (e : Event) (b : Bool) → leaves_open e ≡ b ∷ []
    → flat_map leaves_open (events ++ e ∷ []) ≡ flat_map leaves_open events ++ b ∷ []
opens_one events e b is =
    opens_more events e ∙ ap (λ (l : List Bool). flat_map leaves_open events ++ l) is

-- another one
opens_none : (events : List Event) (e : Event) → leaves_open e ≡ []
    → flat_map leaves_open (events ++ e ∷ []) ≡ flat_map leaves_open events
opens_none events e is =
    opens_more events e ∙ ap (λ (l : List Bool). flat_map leaves_open events ++ l) is
    ∙ append-nil (flat_map leaves_open events)

ends_none : (events : List Event) (e : Event) → ending_in e ≡ [] → flat_map ending_in events ≡ []
    → flat_map ending_in (events ++ e ∷ []) ≡ []
ends_none events e is none =
    flat_map-append ending_in events (e ∷ [])
    ∙ ap (λ (l : List Ending). l ++ flat_map ending_in (e ∷ [])) none ∙ append-nil (ending_in e) ∙ is

-- the last frame of a message
left_one : (events : List Event) (e : Event) (b : Bool) → leaves_open e ≡ b ∷ []
    → Some b ≡ last_or None (flat_map leaves_open (events ++ e ∷ []))
left_one events e b is =
    sym (ap (λ (l : List Bool). last_or None l) (opens_one events e b is)
    ∙ last_joined None (flat_map leaves_open events) (b ∷ []))

left_as_before : (o : Option Bool) (events : List Event) (e : Event) → leaves_open e ≡ []
    → o ≡ last_or None (flat_map leaves_open events) → o ≡ last_or None (flat_map leaves_open (events ++ e ∷ []))
left_as_before o events e is h = h ∙ ap (λ (l : List Bool). last_or None l) (sym (opens_none events e is))

-- ---- the bytes up to the next event

not_false : (b : Bool) → (b ≡ false → ⊥) → b ≡ true
not_false true h = refl
not_false false h = absurd (h refl)

-- the first bytes and so many of the others
parts_of : (n m : ℕ) (l : List ℕ) → take n l ++ take m (drop n l) ≡ take (n + m) l
parts_of n m l =
    ap (λ (k : List ℕ). k ++ take m (drop n l)) (sym (take-take n (n + m) l (omega arith)))
    ∙ ap (λ (k : List ℕ). take n (take (n + m) l) ++ k) (sym (drop-take n m l)) ∙ take-append-drop n (take (n + m) l)

-- a session takes the front of a piece, behind the bytes that it took before
module _ (role : Role) (session new : SessionValue) (bytes piece key x y : List ℕ) (seen : Seen)
    (h : HasSeenBytes role session bytes seen) (t : Taken)
    (took : HasTaken reply_to session new (record { piece = piece; key = key; before = x; after = y }) t)
    (nothing : is_over session.status ≡ true
    → TakesNothing session new (record { piece = piece; key = key; before = x; after = y }) t) where
  abbrev front : List ℕ
  front = take seen.after bytes

  abbrev behind : List ℕ
  behind = drop seen.after bytes

  abbrev part : List ℕ
  part = take t.used piece

  abbrev later : List ℕ
  later = behind ++ part

  abbrev all : List ℕ
  all = bytes ++ part

  abbrev sent_now : List Frame
  sent_now = h.sent ++ replies_by reply_to h.sent (option_to_list t.event)

  takes : Takes reply_to session new (record { sent = h.sent; taken = bytes; ended = false })
      (record { piece = piece; key = key; before = x; after = y }) t
  takes = took (record { sent = h.sent; taken = bytes; ended = false }) refl h.exchanged

  are_events : HasEvents role most_limits bytes h.events
  are_events = subst (λ (l : List ℕ). HasEvents role most_limits l h.events)
      (take_all (length bytes) bytes (omega arith)) (h.quiet (length bytes) h.within)

  front_events : HasEvents role most_limits front h.events
  front_events = h.quiet seen.after (omega arith)

  front_size : length front ≡ seen.after
  front_size = length-take-le seen.after bytes h.within

  part_size : length part ≡ t.used
  part_size = length-take-le t.used piece takes.used

  all_size : length all ≡ length bytes + t.used
  all_size = omega (arith, length-append bytes part, part_size)

  behind_size : seen.after + length behind ≡ length bytes
  behind_size = omega (arith, length-drop seen.after bytes, h.within)

  later_size : length later ≡ length behind + t.used
  later_size = omega (arith, length-append behind part, part_size)

  joined : front ++ later ≡ all
  joined = sym (append_assoc front behind part) ∙ ap (λ (l : List ℕ). l ++ part) (take-append-drop seen.after bytes)

  events_now : HasEvents role most_limits all (h.events ++ option_to_list t.event)
  events_now = at_role session role h.same_role h.limits all (h.events ++ option_to_list t.event)
      (takes.event h.events (of_role session role h.same_role h.limits bytes h.events are_events))

  -- fewer bytes of the part have no more events
  least_of_part : (k : ℕ) → k < t.used → HasEvents role most_limits (bytes ++ take k part) h.events
  least_of_part k short =
      subst (λ (l : List ℕ). HasEvents role most_limits (bytes ++ l) h.events)
      (sym (take-take k t.used piece (omega (arith, short))))
      (at_role session role h.same_role h.limits (bytes ++ take k piece) h.events
      (takes.least k h.events short (of_role session role h.same_role h.limits bytes h.events are_events)))

  least : (n : ℕ) → n < length later → HasEvents role most_limits (front ++ take n later) h.events
  least n less = elim (cases_lt (length behind) n) [
    | inr early ↦
        let at : front ++ take n later ≡ take (seen.after + n) bytes =
        ap (λ (l : List ℕ). front ++ l) (take-append-le n behind part early) ∙ parts_of seen.after n bytes in
        subst (λ (l : List ℕ). HasEvents role most_limits l h.events) (sym at)
        (h.quiet (seen.after + n) (omega arith))
    | inl late ↦
        let k = n - length behind in
        let n_is : n ≡ length behind + k = omega (arith, late) in
        let at : front ++ take n later ≡ bytes ++ take k part =
        ap (λ (m : ℕ). front ++ take m later) n_is
        ∙ ap (λ (l : List ℕ). front ++ l) (take-append-add behind part k)
        ∙ sym (append_assoc front behind (take k part))
        ∙ ap (λ (l : List ℕ). l ++ take k part) (take-append-drop seen.after bytes) in
        subst (λ (l : List ℕ). HasEvents role most_limits l h.events) (sym at)
        (least_of_part k (omega (arith, less, later_size, n_is)))
  ]

  early_bytes : (n : ℕ) → n ≤ length bytes → take n all ≡ take n bytes
  early_bytes n le = take-append-le n bytes part le

  front_still : take seen.after all ≡ front
  front_still = early_bytes seen.after h.within

  -- ---- no event

  no_more : t.event ≡ None → HasEvents role most_limits all h.events
  no_more is =
      subst (λ (l : List Event). HasEvents role most_limits all l)
      (ap (λ (o : Option Event). h.events ++ option_to_list o) is ∙ append-nil h.events) events_now

  still_quiet : t.event ≡ None → (n : ℕ) → seen.after ≤ n → HasEvents role most_limits (take n all) h.events
  still_quiet is n past = elim (cases_lt n (length all)) [
    | inl less ↦
        let m = n - seen.after in
        let n_is : n ≡ length front + m = omega (arith, past, front_size) in
        let at : take n all ≡ front ++ take m later =
        ap (λ (l : List ℕ). take n l) (sym joined) ∙ ap (λ (k : ℕ). take k (front ++ later)) n_is
        ∙ take-append-add front later m in
        subst (λ (l : List ℕ). HasEvents role most_limits l h.events) (sym at)
        (least m (omega (arith, less, n_is, front_size, all_size, later_size, behind_size)))
    | inr whole ↦
        subst (λ (l : List ℕ). HasEvents role most_limits l h.events) (sym (take_all n all whole)) (no_more is)
  ]

  seen_no_event : t.event ≡ None → HasSeenBytes role new all (seen_more seen t.used)
  seen_no_event is = record {
    sent = sent_now;
    events = h.events;
    exchanged = takes.agrees;
    same_role = takes.same.0 ∙ h.same_role;
    limits = takes.same.1 ∙ h.limits;
    place = omega (arith, h.place, all_size);
    left = h.left;
    ends = subst (λ (l : List ℕ). EndsSo role l h.events seen.end seen.last) (sym front_still) h.ends;
    fails = subst (λ (l : List ℕ). FailsWithByte role l seen.end seen.after) (sym front_still) h.fails;
    order = h.order;
    within = omega (arith, h.within, all_size);
    quiet = still_quiet is;
    fewest = λ n less g. h.fewest n less (subst (λ (l : List ℕ). HasEvents role most_limits l h.events)
        (early_bytes n (omega (arith, less, h.within))) g);
    whole = λ e. subst (λ (l : List ℕ). (frames : List KeyedFrame) × SplitsInto l frames []) (sym front_still)
        (h.whole e);
    over = elim h.over [
      | inl going ↦ inl going
      | inr over ↦ inr (subst (λ (v : SessionValue). is_over v.status ≡ true) (sym (nothing over).unchanged) over)
    ];
  }

  -- ---- they end with an event

  module _ (of : EventKind) (payload : List ℕ) (is : t.event ≡ Some (event_in of payload)) where
    abbrev added : Event
    added = event_in of payload

    abbrev more : List Event
    more = h.events ++ added ∷ []

    open_end : seen.end ≡ None
    open_end = elim h.over [
      | inl going ↦ going
      | inr over ↦ absurd (let wrong : Some added ≡ None = sym is ∙ (nothing over).event in cc)
    ]

    going : flat_map ending_in h.events ≡ []
    going = subst (λ (o : Option StreamEnd). EndsSo role front h.events o seen.last) open_end h.ends

    more_all : HasEvents role most_limits all more
    more_all =
        subst (λ (o : Option Event). HasEvents role most_limits all (h.events ++ option_to_list o)) is events_now

    more_events : HasEvents role most_limits (front ++ later) more
    more_events = subst (λ (l : List ℕ). HasEvents role most_limits l more) (sym joined) more_all

    -- so it is seen
    seen_so : (now : Seen) → now.place ≡ seen.place + t.used → now.after ≡ now.place → now.last ≤ now.after
        → left_open now.frame ≡ last_or None (flat_map leaves_open more) → EndsSo role all more now.end now.last
        → FailsWithByte role all now.end now.after → (now.end ≡ None → (frames : List KeyedFrame) × SplitsInto all frames [])
        → (now.end ≡ None) ⊎ (is_over new.status ≡ true) → HasSeenBytes role new all now
    seen_so now place after order left ends fails whole over =
        let size : now.after ≡ length all = omega (arith, place, after, h.place, all_size) in
        let every : take now.after all ≡ all = take_all now.after all (omega (arith, size)) in
        record {
          sent = sent_now;
          events = more;
          exchanged = takes.agrees;
          same_role = takes.same.0 ∙ h.same_role;
          limits = takes.same.1 ∙ h.limits;
          place = omega (arith, size, after);
          left = left;
          ends = subst (λ (l : List ℕ). EndsSo role l more now.end now.last) (sym every) ends;
          fails = subst (λ (l : List ℕ). FailsWithByte role l now.end now.after) (sym every) fails;
          order = order;
          within = omega (arith, size);
          quiet = λ n past. subst (λ (l : List ℕ). HasEvents role most_limits l more)
              (sym (take_all n all (omega (arith, past, size)))) more_all;
          fewest = λ n less g. fewest_have role most_limits front later h.events front_events least added n
              (omega (arith, less, size, all_size, front_size, later_size, behind_size))
              (subst (λ (l : List ℕ). HasEvents role most_limits (take n l) more) (sym joined) g);
          whole = λ e. subst (λ (l : List ℕ). (frames : List KeyedFrame) × SplitsInto l frames []) (sym every)
              (whole e);
          over = over;
        }

    -- the stream goes on
    pub seen_going : (now : Seen) → now.place ≡ seen.place + t.used → now.after ≡ now.place → now.last ≡ seen.last
        → now.end ≡ seen.end → ending_in added ≡ []
        → left_open now.frame ≡ last_or None (flat_map leaves_open more) → HasSeenBytes role new all now
    seen_going now place after last end none left =
        let on = ends_none h.events added none going in
        let split = h.whole open_end in
        seen_so now place after (omega (arith, place, after, last, h.place, h.order, h.within)) left
        (subst (λ (o : Option StreamEnd). EndsSo role all more o now.last) (sym (end ∙ open_end)) on)
        (subst (λ (o : Option StreamEnd). FailsWithByte role all o now.after) (sym (end ∙ open_end)) tt)
        (λ e. subst (λ (l : List ℕ). (frames : List KeyedFrame) × SplitsInto l frames []) joined
        (still_whole role most_limits front later h.events front_events least going split.0 split.1 added more_events
        on))
        (inl (end ∙ open_end))

    -- the session is over with its end
    over_now : Ends added → is_over new.status ≡ true
    over_now ends =
        let agrees = takes.agrees in
        let told = at_role new role (takes.same.0 ∙ h.same_role) (takes.same.1 ∙ h.limits) all agrees.events
        agrees.has_events in
        let same = one_events role most_limits all agrees.events more told more_all in
        let status : new.status ≡ status_of sent_now false more =
        agrees.status ∙ ap (λ (l : List Event). status_of sent_now false l) same in
        ap (λ (s : Status). is_over s) status
        ∙ not_false (is_over (status_of sent_now false more))
        (λ going. no_end sent_now false h.events added ends going)

    pub seen_ending : (now : Seen) (end : StreamEnd) → now.place ≡ seen.place + t.used → now.after ≡ now.place
        → now.last ≡ seen.after → now.end ≡ Some end → Ends added
        → left_open now.frame ≡ last_or None (flat_map leaves_open more)
        → EndsSo role (front ++ later) more (Some end) seen.after
        → FailsWithByte role (front ++ later) (Some end) (length (front ++ later)) → HasSeenBytes role new all now
    seen_ending now end place after last is_end ends left so fails =
        let here = subst (λ (l : List ℕ). EndsSo role l more (Some end) seen.after) joined so in
        let at = subst (λ (n : ℕ). EndsSo role all more (Some end) n) (sym last) here in
        let size : length (front ++ later) ≡ now.after =
        omega (arith, place, after, h.place, all_size, ap (λ (l : List ℕ). length l) joined) in
        let with_last = subst (λ (n : ℕ). FailsWithByte role all (Some end) n) size
        (subst (λ (l : List ℕ). FailsWithByte role l (Some end) (length (front ++ later))) joined fails) in
        seen_so now place after (omega (arith, place, after, last, h.place, h.within)) left
        (subst (λ (o : Option StreamEnd). EndsSo role all more o now.last) (sym is_end) at)
        (subst (λ (o : Option StreamEnd). FailsWithByte role all o now.after) (sym is_end) with_last)
        (λ e. absurd (let wrong : Some end ≡ None = sym is_end ∙ e in cc)) (inr (over_now ends))

    pub ends_failed : (reason : Reason) → added ≡ event.Failed reason
        → EndsSo role (front ++ later) more (Some (stream.Failed reason)) seen.after
    ends_failed reason so =
        let split = h.whole open_end in
        let fails = fails_here role most_limits front later h.events front_events least going split.0 split.1 reason
        (subst (λ (e : Event). HasEvents role most_limits (front ++ later) (h.events ++ e ∷ [])) so more_events) in
        (fails.0, fails.1, fails.2 ∙ front_size)

    pub fails_so : (reason : Reason) → added ≡ event.Failed reason
        → FailsWithByte role (front ++ later) (Some (stream.Failed reason)) (length (front ++ later))
    fails_so reason so =
        let split = h.whole open_end in
        let fails = fails_here role most_limits front later h.events front_events least going split.0 split.1 reason
        (subst (λ (e : Event). HasEvents role most_limits (front ++ later) (h.events ++ e ∷ [])) so more_events) in
        subst (λ (n : ℕ). IsFirstFault role most_limits (front ++ later) n reason)
        (fails_with_last role most_limits front later h.events front_events least going split.0 split.1 fails.0 reason
        fails.1.fault) fails.1

    pub ends_closed : (close : Option CloseValue) → added ≡ event.Close close
        → EndsSo role (front ++ later) more (Some stream.Closed) seen.after
    ends_closed close so = (
      ends_so h.events added (subst (λ (e : Event). Ends e) (sym so) tt),
      closed_has_no_fault role most_limits (front ++ later) h.events close
          (subst (λ (e : Event). HasEvents role most_limits (front ++ later) (h.events ++ e ∷ [])) so more_events),
    )

  seen_event : (of : EventKind) (payload : List ℕ) → t.event ≡ Some (event_in of payload)
      → HasSeenBytes role new all (seen_with (seen_more seen t.used) of)
  seen_event kind.Part payload is =
      seen_going kind.Part payload is (seen_with (seen_more seen t.used) kind.Part) refl refl refl refl refl
      (left_one h.events event.Part true refl)
  seen_event (kind.Message of) payload is =
      seen_going (kind.Message of) payload is (seen_with (seen_more seen t.used) (kind.Message of)) refl refl refl refl
      refl (left_one h.events (event_in (kind.Message of) payload) false refl)
  seen_event kind.Ping payload is =
      seen_going kind.Ping payload is (seen_with (seen_more seen t.used) kind.Ping) refl refl refl refl refl
      (left_as_before (left_open seen.frame) h.events (event.Ping payload) refl h.left)
  seen_event kind.Pong payload is =
      seen_going kind.Pong payload is (seen_with (seen_more seen t.used) kind.Pong) refl refl refl refl refl
      (left_as_before (left_open seen.frame) h.events (event.Pong payload) refl h.left)
  seen_event (kind.Close None) payload is =
      seen_ending (kind.Close None) payload is (seen_with (seen_more seen t.used) (kind.Close None)) stream.Closed refl
      refl refl refl tt (left_as_before (left_open seen.frame) h.events (event.Close None) refl h.left)
      (ends_closed (kind.Close None) payload is None refl) tt
  seen_event (kind.Close (Some code)) payload is =
      let close = Some (record { code = code; reason = payload }) in
      seen_ending (kind.Close (Some code)) payload is (seen_with (seen_more seen t.used) (kind.Close (Some code)))
      stream.Closed refl refl refl refl tt
      (left_as_before (left_open seen.frame) h.events (event.Close close) refl h.left)
      (ends_closed (kind.Close (Some code)) payload is close refl) tt
  seen_event (kind.Failed reason) payload is =
      seen_ending (kind.Failed reason) payload is (seen_with (seen_more seen t.used) (kind.Failed reason))
      (stream.Failed reason) refl refl refl refl tt
      (left_as_before (left_open seen.frame) h.events (event.Failed reason) refl h.left)
      (ends_failed (kind.Failed reason) payload is reason refl)
      (fails_so (kind.Failed reason) payload is reason refl)

  -- whatever was told
  pub seen_step : (of : Option EventKind) (payload : List ℕ) → t.event ≡ event_if_any of payload
      → HasSeenBytes role new all (seen_if_any (seen_more seen t.used) of)
  seen_step None payload is = seen_no_event is
  seen_step (Some of) payload is = seen_event of payload is

-- ---- all bytes

-- what all bytes end with, where more of them have the same events
ends_still : (role : Role) (s more : List ℕ) (events : List Event) (end : Option StreamEnd) (last : ℕ)
    → HasEvents role most_limits s events → HasEvents role most_limits (s ++ more) events
    → EndsSo role s events end last → EndsSo role (s ++ more) events end last
ends_still role s more events None last has all h = h
ends_still role s more events (Some stream.Closed) last has all h = (h.0, none has.fault has.is_fault has.are)
  where
    none_by : (fault : Option (ℕ × Reason)) → IsFaultOf role most_limits (s ++ more) fault
        → events ≡ events_of all.frames fault → events ≡ events_of has.frames None
        → (reason : Reason) (place : ℕ) → IsFirstFault role most_limits (s ++ more) place reason → ⊥
    none_by None is are were reason place f = is place reason f.fault
    none_by (Some fault) is are were reason place f =
        failed_not has.frames (events_after [] (frames_of (through_close (ending_before fault.0 all.frames)))) fault.1
        (sym are ∙ were)

    none : (fault : Option (ℕ × Reason)) → IsFaultOf role most_limits s fault → events ≡ events_of has.frames fault
        → (reason : Reason) (place : ℕ) → IsFirstFault role most_limits (s ++ more) place reason → ⊥
    none None is are = none_by all.fault all.is_fault all.are are
    none (Some fault) is are = absurd (h.1 fault.1 fault.0 is)
ends_still role s more events (Some (stream.Failed reason)) last has all (place, found, at) =
    let f = found.fault in (
      place,
      record {
        fault = record {
          before = f.before;
          sent = f.sent;
          no_close = f.no_close;
          header = f.header;
          is_header = f.is_header;
          payload = f.payload;
          are_bytes = f.are_bytes;
          within = f.within;
          long = omega (arith, f.long, length-append s more);
          parts = take-append-le place s more f.long ∙ f.parts;
          applies = f.applies;
        };
        first = (first_stays role most_limits s more place reason found).first;
      },
      at,
    )

fails_still : (role : Role) (s u : List ℕ) (end : Option StreamEnd) (after : ℕ)
    → FailsWithByte role s end after → FailsWithByte role (s ++ u) end after
fails_still role s u None after h = tt
fails_still role s u (Some stream.Closed) after h = tt
fails_still role s u (Some (stream.Failed reason)) after h = first_stays role most_limits s u after reason h

-- what is seen of the bytes that a session took
module _ (role : Role) (session : SessionValue) (bytes : List ℕ) (seen : Seen)
    (h : HasSeenBytes role session bytes seen) where
  abbrev before : List ℕ
  before = take seen.after bytes

  abbrev beyond : List ℕ
  beyond = drop seen.after bytes

  whole_is : before ++ beyond ≡ bytes
  whole_is = take-append-drop seen.after bytes

  all_events : HasEvents role most_limits bytes h.events
  all_events = subst (λ (l : List ℕ). HasEvents role most_limits l h.events)
      (take_all (length bytes) bytes (omega arith)) (h.quiet (length bytes) h.within)

  pub is_seen : IsSeen role bytes seen
  is_seen = record {
    events = h.events;
    are_events = all_events;
    left = h.left;
    ends = subst (λ (l : List ℕ). EndsSo role l h.events seen.end seen.last) whole_is
        (ends_still role before beyond h.events seen.end seen.last (h.quiet seen.after (omega arith))
        (subst (λ (l : List ℕ). HasEvents role most_limits l h.events) (sym whole_is) all_events) h.ends);
    fails = subst (λ (l : List ℕ). FailsWithByte role l seen.end seen.after) whole_is
        (fails_still role before beyond seen.end seen.after h.fails);
    order = h.order;
    within = h.within;
    behind = record {
      front = before;
      parts = sym whole_is;
      same = h.quiet seen.after (omega arith);
      fewest = λ n less g.
          let size = length-take-le seen.after bytes h.within in
          let same = take-take n seen.after bytes (omega (arith, less, size)) in
          h.fewest n (omega (arith, less, size)) (subst (λ (l : List ℕ). HasEvents role most_limits l h.events) same g);
    };
  }

-- ---- turn after turn

-- one turn more was taken this way
pub seen_turn : (way : Way) (role : Role) (turns : List Turn) (i : ℕ) (turn : Turn) (bytes : List ℕ)
    (session : SessionValue) (seen : Seen) → i < length turns → turn ≡ get_or turns i turn
    → bytes ≡ way_bytes way turn → HasSeenBytes role session (bytes_before (way_bytes way) turns i ++ bytes) seen
    → HasSeenBytes role session (bytes_before (way_bytes way) turns (i + 1)) seen
seen_turn way role turns i turn bytes session seen less is same h =
    subst (λ (l : List ℕ). HasSeenBytes role session l seen)
    (ap (λ (l : List ℕ). bytes_before (way_bytes way) turns i ++ l) same
    ∙ sym (bytes_more (way_bytes way) turns i turn less is)) h

-- all turns were
pub seen_of_all : (way : Way) (role : Role) (turns : List Turn) (i : ℕ) (session : SessionValue) (seen : Seen)
    → length turns ≤ i → HasSeenBytes role session (bytes_before (way_bytes way) turns i) seen
    → IsSeen role (concat (map (way_bytes way) turns)) seen
seen_of_all way role turns i session seen all h =
    subst (λ (l : List ℕ). IsSeen role l seen) (bytes_of_all (way_bytes way) turns i all)
    (is_seen role session (bytes_before (way_bytes way) turns i) seen h)
