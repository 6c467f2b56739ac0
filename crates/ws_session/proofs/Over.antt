-- A session that is over: more bytes change nothing.
use Rattle.std.proofs.Common.{◌≡◌, ℕ, ◌+◌, ◌≤◌, ◌⊎◌, Bool, true, false, cond, List, [], ◌∷◌, ◌++◌, length, drop, Option, Some, None, refl, sym, ap, ◌∙◌, append_assoc, arith, inl, inr, subst}
use Rattle.std.specs.Prelude.{◌==◌}
use Rattle.std.specs.List.{AllByRecursion, flat_map}
use Rattle.std.proofs.lemmas.Bool.{cases_lt}
use Rattle.std.proofs.lemmas.List.{length-append, append-nil}
use Rattle.std.proofs.lemmas.Grind.{flat_map-append}
use Rattle.ws_wire.specs.declared.role.Role.{Role}
use Rattle.ws_wire.specs.Header.{AreBytes, header_bytes}
use Rattle.ws_wire.specs.Masking.{masked_payload}
use Rattle.ws_wire.specs.Frame.{Frame, KeyedFrame, FitsTheLayout, frame_bytes, stream_bytes}
use Rattle.ws_wire.specs.Stream.{SplitsInto}
use Rattle.ws_wire.proofs.Frames.{frame_told}
use Rattle.ws_session.specs.declared.message.Message.{Message}
use Rattle.ws_session.specs.declared.reason.Reason.{Reason}
use Rattle.ws_session.specs.declared.event.Event.{Event}
use Rattle.ws_session.specs.declared.event.Event.TheVariants as event
use Rattle.ws_session.specs.Limits.{LimitsValue}
use Rattle.ws_session.specs.Messages.{is_control, is_close, data_frames, groups_of, message_of}
use Rattle.ws_session.specs.Faults.{frames_of, IsNoClose, IsFaultAt, IsFirstFault, HasNoFault}
use Rattle.ws_session.specs.Events.{event_of_control, event_of, events_after, through_close, ending_before, events_of, IsFaultOf, HasEvents, close_in}
use Rattle.std.specs.Prelude.{◌||◌}
use Rattle.ws_session.specs.declared.status.Status.{Status}
use Rattle.ws_session.specs.declared.status.Status.TheVariants as status
use Rattle.ws_session.specs.Replies.{reply_to, until_close, has_close, replies_by, replies_of}
use Rattle.ws_session.specs.Exchange.{SessionValue, HasExchanged, is_over, last_event, status_before_close, status_after, status_of}
use Rattle.ws_session.proofs.ByteLists.{bytes_append}
use Rattle.ws_session.proofs.Faults.{fault_before}
use Rattle.ws_session.proofs.EventsGoOn.{one_events}
use Rattle.ws_wire.proofs.Splits.{some_split}
use Rattle.ws_session.proofs.Faults.{first_stays}
use Rattle.ws_session.proofs.Streams.{goes_on}
use Rattle.ws_session.proofs.EventsGoOn.{ending_before_stays}
use Rattle.ws_session.proofs.Places.{compare_frames, fault_parts}
use Rattle.ws_session.proofs.Next.{in_frames}
use Rattle.ws_session.proofs.Statuses.{Ends, ClosesAt, closes_or_not}
use Rattle.ws_session.proofs.OneMoreFrame.{through_close_same}

-- ---- replies in two parts

or_assoc : (a b c : Bool) → a || (b || c) ≡ (a || b) || c
or_assoc true b c = refl
or_assoc false b c = refl

has_close-append : (xs ys : List Frame) → has_close (xs ++ ys) ≡ has_close xs || has_close ys
has_close-append [] ys = refl
has_close-append (x ∷ xs) ys = ap (λ b. is_close x || b) (has_close-append xs ys) ∙ or_assoc (is_close x) (has_close xs) (has_close ys)

until_by : (b : Bool) (x : Frame) (xs ys : List Frame) → is_close x ≡ b → until_close (xs ++ ys) ≡ until_close xs ++ cond (has_close xs) [] (until_close ys) → until_close (x ∷ xs ++ ys) ≡ until_close (x ∷ xs) ++ cond (has_close (x ∷ xs)) [] (until_close ys)
until_by true x xs ys e h =
    ap (λ b. cond b (x ∷ []) (x ∷ until_close (xs ++ ys))) e ∙ sym (ap (λ b. cond b (x ∷ []) (x ∷ until_close xs) ++ cond (b || has_close xs) [] (until_close ys)) e)
until_by false x xs ys e h =
    ap (λ b. cond b (x ∷ []) (x ∷ until_close (xs ++ ys))) e ∙ ap (λ (l : List Frame). x ∷ l) h ∙ sym (ap (λ b. cond b (x ∷ []) (x ∷ until_close xs) ++ cond (b || has_close xs) [] (until_close ys)) e)

until_close-append : (xs ys : List Frame) → until_close (xs ++ ys) ≡ until_close xs ++ cond (has_close xs) [] (until_close ys)
until_close-append [] ys = refl
until_close-append (x ∷ xs) ys = until_by (is_close x) x xs ys refl (until_close-append xs ys)

has_until_by : (b : Bool) (x : Frame) (xs : List Frame) → is_close x ≡ b → has_close (until_close xs) ≡ has_close xs → has_close (until_close (x ∷ xs)) ≡ has_close (x ∷ xs)
has_until_by true x xs e h = ap (λ b. has_close (cond b (x ∷ []) (x ∷ until_close xs))) e ∙ ap (λ b. b || false) e ∙ sym (ap (λ b. b || has_close xs) e)
has_until_by false x xs e h = ap (λ b. has_close (cond b (x ∷ []) (x ∷ until_close xs))) e ∙ ap (λ b. is_close x || b) h

has_until : (xs : List Frame) → has_close (until_close xs) ≡ has_close xs
has_until [] = refl
has_until (x ∷ xs) = has_until_by (is_close x) x xs refl (has_until xs)

-- whatever is replied to an event
module _ (reply : Event → List Frame) where
  by_close : (b : Bool) (sent : List Frame) (es fs : List Event) → has_close sent ≡ b → replies_by reply sent (es ++ fs) ≡ replies_by reply sent es ++ replies_by reply (sent ++ replies_by reply sent es) fs
  by_close true sent es fs e =
      let none : replies_by reply sent es ≡ [] = ap (λ b. cond b [] (until_close (flat_map reply es))) e in
      let again : has_close (sent ++ replies_by reply sent es) ≡ true = ap (λ (l : List Frame). has_close (sent ++ l)) none ∙ ap (λ (l : List Frame). has_close l) (append-nil sent) ∙ e in
      ap (λ b. cond b [] (until_close (flat_map reply (es ++ fs)))) e ∙ sym (ap (λ (l : List Frame). l ++ replies_by reply (sent ++ replies_by reply sent es) fs) none ∙ ap (λ b. cond b [] (until_close (flat_map reply fs))) again)
  by_close false sent es fs e =
      let first : replies_by reply sent es ≡ until_close (flat_map reply es) = ap (λ b. cond b [] (until_close (flat_map reply es))) e in
      let after : has_close (sent ++ replies_by reply sent es) ≡ has_close (flat_map reply es) = has_close-append sent (replies_by reply sent es) ∙ ap (λ b. b || has_close (replies_by reply sent es)) e ∙ ap (λ (l : List Frame). has_close l) first ∙ has_until (flat_map reply es) in
      ap (λ b. cond b [] (until_close (flat_map reply (es ++ fs)))) e ∙ ap (λ (l : List Frame). until_close l) (flat_map-append reply es fs) ∙ until_close-append (flat_map reply es) (flat_map reply fs)
      ∙ ap (λ (l : List Frame). l ++ cond (has_close (flat_map reply es)) [] (until_close (flat_map reply fs))) (sym first) ∙ ap (λ b. replies_by reply sent es ++ cond b [] (until_close (flat_map reply fs))) (sym after)

  -- replies to more events are those to the first, and then, with these sent, those to the others
  pub replies_by-append : (sent : List Frame) (es fs : List Event) → replies_by reply sent (es ++ fs) ≡ replies_by reply sent es ++ replies_by reply (sent ++ replies_by reply sent es) fs
  replies_by-append sent es fs = by_close (has_close sent) sent es fs refl

pub replies-append : (sent : List Frame) (es fs : List Event) → replies_of sent (es ++ fs) ≡ replies_of sent es ++ replies_of (sent ++ replies_of sent es) fs
replies-append = replies_by-append reply_to

-- ---- what a session that is over was told last

control_ends_not : (b c d : Bool) (f : Frame) → b ≡ false → Ends (cond b (event.Close (close_in f.payload)) (cond c (event.Ping f.payload) (event.Pong f.payload))) → ⊥
control_ends_not true c d f e h = absurd cc
control_ends_not false true d f e h = h
control_ends_not false false d f e h = h

event_ends_not_by : (a b : Bool) (before : List Frame) (f : Frame) (m : Message) → is_close f ≡ false → Ends (cond a (event_of_control f) (cond b (event.Message m) event.Part)) → ⊥
event_ends_not_by true b before f m e h = control_ends_not (is_close f) (f.opcode == 9) b f e h
event_ends_not_by false true before f m e h = h
event_ends_not_by false false before f m e h = h

pub event_ends_not : (before : List Frame) (f : Frame) → is_close f ≡ false → Ends (event_of before f) → ⊥
event_ends_not before f e h = event_ends_not_by (is_control f) f.fin before f (message_of ((groups_of (data_frames before)).unfinished ++ f ∷ [])) e h

abbrev pub EndsLast : Option Event → Type 0
EndsLast None = ⊥
EndsLast (Some e) = Ends e

pub last_ends_not : (before : List Frame) (xs : List KeyedFrame) → AllByRecursion IsNoClose xs → EndsLast (last_event (events_after before (frames_of xs))) → ⊥
last_ends_not before [] h is = is
last_ends_not before (x ∷ []) h is = event_ends_not before x.frame h.0 is
last_ends_not before (x ∷ y ∷ xs) h is = last_ends_not (before ++ x.frame ∷ []) (y ∷ xs) h.1 is

pub status_unless : (sent : List Frame) (ended : Bool) (o : Option Event) → (EndsLast o → ⊥) → status_after sent ended o ≡ status_before_close sent ended
status_unless sent ended None h = refl
status_unless sent ended (Some event.Part) h = refl
status_unless sent ended (Some (event.Message m)) h = refl
status_unless sent ended (Some (event.Ping p)) h = refl
status_unless sent ended (Some (event.Pong p)) h = refl
status_unless sent ended (Some (event.Close c)) h = absurd (h tt)
status_unless sent ended (Some (event.Failed r)) h = absurd (h tt)

before_close_lost : (ended b : Bool) → is_over (cond ended status.Lost (cond b status.Closing status.Open)) ≡ true → cond ended status.Lost (cond b status.Closing status.Open) ≡ status.Lost
before_close_lost true b e = refl
before_close_lost false true e = absurd cc
before_close_lost false false e = absurd cc

-- ---- a stream that has ended, or has not

not_lost_by : (b : Bool) → cond b status.Closing status.Open ≡ status.Lost → ⊥
not_lost_by true e = absurd cc
not_lost_by false e = absurd cc

not_lost_after : (sent : List Frame) (o : Option Event) → status_after sent false o ≡ status.Lost → ⊥
not_lost_after sent None e = not_lost_by (has_close sent) e
not_lost_after sent (Some event.Part) e = not_lost_by (has_close sent) e
not_lost_after sent (Some (event.Message m)) e = not_lost_by (has_close sent) e
not_lost_after sent (Some (event.Ping p)) e = not_lost_by (has_close sent) e
not_lost_after sent (Some (event.Pong p)) e = not_lost_by (has_close sent) e
not_lost_after sent (Some (event.Close c)) e = absurd cc
not_lost_after sent (Some (event.Failed r)) e = absurd cc

-- a session whose stream has not ended is not lost
pub not_lost : (v : SessionValue) (sent : List Frame) (s : List ℕ) → HasExchanged v sent s false → v.status ≡ status.Lost → ⊥
not_lost v sent s h e = not_lost_after sent (last_event h.events) (sym h.status ∙ e)

over_after : (sent : List Frame) (o : Option Event) → is_over (status_after sent true o) ≡ true
over_after sent None = refl
over_after sent (Some event.Part) = refl
over_after sent (Some (event.Message m)) = refl
over_after sent (Some (event.Ping p)) = refl
over_after sent (Some (event.Pong p)) = refl
over_after sent (Some (event.Close c)) = refl
over_after sent (Some (event.Failed r)) = refl

-- one whose stream has ended is over
pub ended_is_over : (v : SessionValue) (sent : List Frame) (s : List ℕ) → HasExchanged v sent s true → is_over v.status ≡ true
ended_is_over v sent s h = ap (λ (t : Status). is_over t) h.status ∙ over_after sent (last_event h.events)

-- ---- behind a close

all_last : (xs : List KeyedFrame) (x : KeyedFrame) → AllByRecursion IsNoClose (xs ++ x ∷ []) → is_close x.frame ≡ false
all_last [] x h = h.0
all_last (y ∷ xs) x h = all_last xs x h.1

closes_not : (xs : List KeyedFrame) → AllByRecursion IsNoClose xs → ClosesAt xs → ⊥
closes_not xs h c =
    let last : is_close c.last.frame ≡ false = all_last c.before c.last (subst (λ (l : List KeyedFrame). AllByRecursion IsNoClose l) (sym (through_close_same xs h) ∙ c.parts) h) in
    let both : true ≡ false = sym c.is ∙ last in absurd cc

through_stays_by : (b : Bool) (x : KeyedFrame) (xs ys : List KeyedFrame) → is_close x.frame ≡ b → ClosesAt (x ∷ xs) → (ClosesAt xs → through_close (xs ++ ys) ≡ through_close xs) → (AllByRecursion IsNoClose xs ⊎ ClosesAt xs) → through_close (x ∷ xs ++ ys) ≡ through_close (x ∷ xs)
through_stays_by true x xs ys e c ih h = ap (λ b. cond b (x ∷ []) (x ∷ through_close (xs ++ ys))) e ∙ sym (ap (λ b. cond b (x ∷ []) (x ∷ through_close xs)) e)
through_stays_by false x xs ys e c ih (inr d) = ap (λ b. cond b (x ∷ []) (x ∷ through_close (xs ++ ys))) e ∙ ap (λ (l : List KeyedFrame). x ∷ l) (ih d) ∙ sym (ap (λ b. cond b (x ∷ []) (x ∷ through_close xs)) e)
through_stays_by false x xs ys e c ih (inl none) = absurd (closes_not (x ∷ xs) (e, none) c)

through_stays : (xs ys : List KeyedFrame) → ClosesAt xs → through_close (xs ++ ys) ≡ through_close xs
through_stays [] ys c = absurd (closes_not [] tt c)
through_stays (x ∷ xs) ys c = through_stays_by (is_close x.frame) x xs ys refl c (through_stays xs ys) (closes_or_not xs)

front_of_all : (xs ys : List KeyedFrame) → AllByRecursion IsNoClose (xs ++ ys) → AllByRecursion IsNoClose xs
front_of_all [] ys h = tt
front_of_all (x ∷ xs) ys h = (h.0, front_of_all xs ys h.1)

-- no fault lies behind a close
clean_behind : (role : Role) (limits : LimitsValue) (s u : List ℕ) (xs : List KeyedFrame) (rest : List ℕ) → SplitsInto s xs rest → ClosesAt xs → HasNoFault role limits s → HasNoFault role limits (s ++ u)
clean_behind role limits s u xs rest split c clean n r f =
    elim (cases_lt (length s) n) [
      | inr early ↦ clean n r (fault_before role limits s u n r early f)
      | inl late ↦
          let joins : s ++ u ≡ stream_bytes xs ++ (rest ++ u) = ap (λ (l : List ℕ). l ++ u) split.whole ∙ append_assoc (stream_bytes xs) rest u in
          let size : length s ≡ length (stream_bytes xs) + length rest = ap (λ (l : List ℕ). length l) split.whole ∙ length-append (stream_bytes xs) rest in
          let g : IsFaultAt role limits (stream_bytes xs ++ (rest ++ u)) n r = subst (λ (l : List ℕ). IsFaultAt role limits l n r) joins f in
          elim (compare_frames xs g.before (rest ++ u) (header_bytes g.header ++ (masked_payload g.header.key g.payload ++ drop n (stream_bytes xs ++ (rest ++ u)))) split.each g.sent (fault_parts role limits (stream_bytes xs ++ (rest ++ u)) n r g)) [
            | inl b ↦ closes_not xs (front_of_all xs b.more (subst (λ (l : List KeyedFrame). AllByRecursion IsNoClose l) b.frames g.no_close)) c
            | inr w ↦ in_frames role limits xs (rest ++ u) split.each n r g (omega (arith, late, size)) w
          ]
    ]

-- ---- more bytes

-- the events of a stream that failed stay
failed_stays : (role : Role) (limits : LimitsValue) (s u : List ℕ) (xs : List KeyedFrame) (rest : List ℕ) (n : ℕ) (r : Reason) → AreBytes (s ++ u) → SplitsInto s xs rest → IsFirstFault role limits s n r → HasEvents role limits (s ++ u) (events_of xs (Some (n, r)))
failed_stays role limits s u xs rest n r bytes split fault =
    let c = some_split FitsTheLayout frame_bytes frame_told (s ++ u) bytes in
    let same : stream_bytes xs ++ (rest ++ u) ≡ stream_bytes c.frames ++ c.rest = sym (append_assoc (stream_bytes xs) rest u) ∙ ap (λ (l : List ℕ). l ++ u) (sym split.whole) ∙ c.split.whole in
    let g = goes_on xs c.frames (rest ++ u) c.rest split.each c.split.each c.split.left same in
    let le : n ≤ length (stream_bytes xs) + length rest = omega (arith, ap (λ (l : List ℕ). length l) split.whole, length-append (stream_bytes xs) rest, fault.fault.long) in
    let ends : ending_before n c.frames ≡ ending_before n xs = ap (λ (l : List KeyedFrame). ending_before n l) g.frames ∙ ending_before_stays n xs g.later rest u c.rest split.left g.sent g.bytes le in
    record {
      frames = c.frames;
      rest = c.rest;
      split = c.split;
      fault = Some (n, r);
      is_fault = first_stays role limits s u n r fault;
      are = ap (λ (l : List KeyedFrame). events_after [] (frames_of (through_close l)) ++ event.Failed r ∷ []) (sym ends);
    }

-- and those of a stream that was closed
closed_stays : (role : Role) (limits : LimitsValue) (s u : List ℕ) (xs : List KeyedFrame) (rest : List ℕ) → AreBytes (s ++ u) → SplitsInto s xs rest → ClosesAt xs → HasNoFault role limits s → HasEvents role limits (s ++ u) (events_of xs None)
closed_stays role limits s u xs rest bytes split closes clean =
    let c = some_split FitsTheLayout frame_bytes frame_told (s ++ u) bytes in
    let same : stream_bytes xs ++ (rest ++ u) ≡ stream_bytes c.frames ++ c.rest = sym (append_assoc (stream_bytes xs) rest u) ∙ ap (λ (l : List ℕ). l ++ u) (sym split.whole) ∙ c.split.whole in
    let g = goes_on xs c.frames (rest ++ u) c.rest split.each c.split.each c.split.left same in
    record {
      frames = c.frames;
      rest = c.rest;
      split = c.split;
      fault = None;
      is_fault = clean_behind role limits s u xs rest split closes clean;
      are = ap (λ (l : List KeyedFrame). events_after [] (frames_of l)) (sym (ap (λ (l : List KeyedFrame). through_close l) g.frames ∙ through_stays xs g.later closes));
    }

-- a session that is over by a close or a fault
module _ (v : SessionValue) (sent : List Frame) (s u : List ℕ) (ended : Bool) (h : HasExchanged v sent s ended) (over : is_over v.status ≡ true) (lost : v.status ≡ status.Lost → ⊥) (more : AreBytes u) where
  all_bytes : AreBytes (s ++ u)
  all_bytes = bytes_append s u h.bytes more

  stays_by : (f : Option (ℕ × Reason)) → IsFaultOf v.role v.limits s f → h.events ≡ events_of h.has_events.frames f → HasEvents v.role v.limits (s ++ u) h.events
  stays_by (Some f) is are = subst (λ (es : List Event). HasEvents v.role v.limits (s ++ u) es) (sym are) (failed_stays v.role v.limits s u h.has_events.frames h.has_events.rest f.0 f.1 all_bytes h.has_events.split is)
  stays_by None is are =
      elim (closes_or_not h.has_events.frames) [
        | inr c ↦ subst (λ (es : List Event). HasEvents v.role v.limits (s ++ u) es) (sym are) (closed_stays v.role v.limits s u h.has_events.frames h.has_events.rest all_bytes h.has_events.split c is)
        | inl none ↦
            let events : h.events ≡ events_after [] (frames_of h.has_events.frames) = are ∙ ap (λ (l : List KeyedFrame). events_after [] (frames_of l)) (through_close_same h.has_events.frames none) in
            let going : v.status ≡ status_before_close sent ended = h.status ∙ ap (λ (es : List Event). status_of sent ended es) events
            ∙ status_unless sent ended (last_event (events_after [] (frames_of h.has_events.frames))) (last_ends_not [] h.has_events.frames none) in
            absurd (lost (going ∙ before_close_lost ended (has_close sent) (ap (λ (t : Status). is_over t) (sym going) ∙ over)))
      ]

  -- its events are those of more bytes
  pub over_events : (es : List Event) → HasEvents v.role v.limits s es → HasEvents v.role v.limits (s ++ u) es
  over_events es has =
      subst (λ (l : List Event). HasEvents v.role v.limits (s ++ u) l) (one_events v.role v.limits s h.events es h.has_events has) (stays_by h.has_events.fault h.has_events.is_fault h.has_events.are)

  -- and it agrees with having taken them
  pub over_agrees : HasExchanged v sent (s ++ u) ended
  over_agrees = record {
    bytes = all_bytes;
    events = h.events;
    has_events = stays_by h.has_events.fault h.has_events.is_fault h.has_events.are;
    status = h.status;
    sending = h.sending;
    taking = λ going. let both : true ≡ false = sym over ∙ going in absurd cc;
  }
