-- The status of a session that isn't over, and after one more event.
use Rattle.std.proofs.Common.{◌≡◌, ℕ, ◌⊎◌, Bool, true, false, cond, List, [], ◌∷◌, ◌++◌, Option, Some, None, refl, sym, ap, ◌∙◌, inl, inr, subst}
use Rattle.std.specs.Prelude.{◌==◌, is_some}
use Rattle.std.specs.List.{AllByRecursion}
use Rattle.std.proofs.lemmas.List.{map-append}
use Rattle.ws_wire.specs.Header.{AreBytes}
use Rattle.ws_wire.specs.Frame.{Frame, KeyedFrame, stream_bytes}
use Rattle.ws_session.specs.declared.reason.Reason.{Reason}
use Rattle.ws_session.specs.declared.event.Event.{Event}
use Rattle.ws_session.specs.declared.event.Event.TheVariants as event
use Rattle.ws_session.specs.Messages.{is_close, data_frames, groups_of, message_of, open_message_of}
use Rattle.ws_session.specs.Faults.{frames_of, IsNoClose, HasNoFault}
use Rattle.ws_session.specs.Events.{event_of, events_after, through_close, ending_before, events_of, IsFaultOf, close_in}
use Rattle.ws_session.specs.InnerNextFrame.{AreSent, BeginsNoFrame}
use Rattle.std.specs.Prelude.{nat_le}
use Rattle.std.proofs.Common.{eqb-true}
use Rattle.ws_session.specs.declared.status.Status.{Status}
use Rattle.ws_session.specs.Exchange.{SessionValue, HasExchanged, IsSendingOf, is_over, last_event, status_before_close, status_after, status_of}
use Rattle.ws_session.specs.InnerReceiver.{status_by}
use Rattle.ws_session.proofs.EventsGoOn.{events_after-append}

pub last_snoc : (es : List Event) (e : Event) → last_event (es ++ e ∷ []) ≡ Some e
last_snoc [] e = refl
last_snoc (d ∷ []) e = refl
last_snoc (d ∷ c ∷ es) e = last_snoc (c ∷ es) e

pub status_snoc : (sent : List Frame) (ended : Bool) (es : List Event) (e : Event) → status_of sent ended (es ++ e ∷ []) ≡ status_after sent ended (Some e)
status_snoc sent ended es e = ap (λ (o : Option Event). status_after sent ended o) (last_snoc es e)

-- the other end's close has come, or there was a fault
abbrev pub Ends : Event → Type 0
Ends (event.Failed r) = Unit {0}
Ends (event.Close c) = Unit {0}
Ends _ = ⊥

true_is_not_false : true ≡ false → ⊥
true_is_not_false e = absurd cc

ends_is_over : (sent : List Frame) (ended : Bool) (es : List Event) (e : Event) → Ends e → is_over (status_of sent ended (es ++ e ∷ [])) ≡ true
ends_is_over sent ended es event.Part h = absurd h
ends_is_over sent ended es (event.Message m) h = absurd h
ends_is_over sent ended es (event.Ping p) h = absurd h
ends_is_over sent ended es (event.Pong p) h = absurd h
ends_is_over sent ended es (event.Close c) h = ap (λ (s : Status). is_over s) (status_snoc sent ended es (event.Close c))
ends_is_over sent ended es (event.Failed r) h = ap (λ (s : Status). is_over s) (status_snoc sent ended es (event.Failed r))

-- a session that isn't over was told no such event last
pub no_end : (sent : List Frame) (ended : Bool) (es : List Event) (e : Event) → Ends e → is_over (status_of sent ended (es ++ e ∷ [])) ≡ false → ⊥
no_end sent ended es e h going = true_is_not_false (sym (ends_is_over sent ended es e h) ∙ going)

before_close_by : (b : Bool) (sent : List Frame) → is_over (status_before_close sent b) ≡ false → b ≡ false
before_close_by true sent h = absurd (true_is_not_false h)
before_close_by false sent h = refl

abbrev IsBeforeClose : List Frame → Bool → Status → Type 0
IsBeforeClose sent ended s = (ended ≡ false) × (s ≡ status_before_close sent false)

at_false : (sent : List Frame) (ended : Bool) (s : Status) → s ≡ status_before_close sent ended → is_over s ≡ false → IsBeforeClose sent ended s
at_false sent ended s e h =
    let is : ended ≡ false = before_close_by ended sent (ap (λ (t : Status). is_over t) (sym e) ∙ h) in
    (is, e ∙ ap (λ b. status_before_close sent b) is)

going_by : (sent : List Frame) (ended : Bool) (o : Option Event) → is_over (status_after sent ended o) ≡ false → IsBeforeClose sent ended (status_after sent ended o)
going_by sent ended None h = at_false sent ended (status_before_close sent ended) refl h
going_by sent ended (Some event.Part) h = at_false sent ended (status_before_close sent ended) refl h
going_by sent ended (Some (event.Message m)) h = at_false sent ended (status_before_close sent ended) refl h
going_by sent ended (Some (event.Ping p)) h = at_false sent ended (status_before_close sent ended) refl h
going_by sent ended (Some (event.Pong p)) h = at_false sent ended (status_before_close sent ended) refl h
going_by sent ended (Some (event.Close c)) h = absurd (true_is_not_false h)
going_by sent ended (Some (event.Failed r)) h = absurd (true_is_not_false h)

-- the status with other frames sent
pub other_sent : (sent others : List Frame) (ended : Bool) (o : Option Event) → is_over (status_after sent ended o) ≡ false → status_after others ended o ≡ status_before_close others false
other_sent sent others ended None h = ap (λ b. status_before_close others b) (before_close_by ended sent h)
other_sent sent others ended (Some event.Part) h = ap (λ b. status_before_close others b) (before_close_by ended sent h)
other_sent sent others ended (Some (event.Message m)) h = ap (λ b. status_before_close others b) (before_close_by ended sent h)
other_sent sent others ended (Some (event.Ping p)) h = ap (λ b. status_before_close others b) (before_close_by ended sent h)
other_sent sent others ended (Some (event.Pong p)) h = ap (λ b. status_before_close others b) (before_close_by ended sent h)
other_sent sent others ended (Some (event.Close c)) h = absurd (true_is_not_false h)
other_sent sent others ended (Some (event.Failed r)) h = absurd (true_is_not_false h)

-- a session that isn't over: its stream hasn't ended, and its status is whether its own close was sent
pub going_on : (sent : List Frame) (ended : Bool) (es : List Event) → is_over (status_of sent ended es) ≡ false → (ended ≡ false) × (status_of sent ended es ≡ status_before_close sent false)
going_on sent ended es h = going_by sent ended (last_event es) h

-- ---- the frames of a session that isn't over

-- there is no close among them, or the last of those up to the first close is one
pub record ClosesAt (xs : List KeyedFrame) : Type 0 where
  pub before : List KeyedFrame
  pub last : KeyedFrame
  pub is : is_close last.frame ≡ true
  pub parts : through_close xs ≡ before ++ last ∷ []

closes_by : (b : Bool) (x : KeyedFrame) (xs : List KeyedFrame) → is_close x.frame ≡ b → AllByRecursion IsNoClose xs ⊎ ClosesAt xs → AllByRecursion IsNoClose (x ∷ xs) ⊎ ClosesAt (x ∷ xs)
closes_by true x xs e h = inr (record { before = []; last = x; is = e; parts = ap (λ b. cond b (x ∷ []) (x ∷ through_close xs)) e })
closes_by false x xs e (inl h) = inl (e, h)
closes_by false x xs e (inr h) = inr (record { before = x ∷ h.before; last = h.last; is = h.is; parts = ap (λ b. cond b (x ∷ []) (x ∷ through_close xs)) e ∙ ap (λ (l : List KeyedFrame). x ∷ l) h.parts })

pub closes_or_not : (xs : List KeyedFrame) → AllByRecursion IsNoClose xs ⊎ ClosesAt xs
closes_or_not [] = inl tt
closes_or_not (x ∷ xs) = closes_by (is_close x.frame) x xs refl (closes_or_not xs)

-- the last event of frames that a close ends is a close
close_event : (before : List Frame) (f : Frame) → is_close f ≡ true → event_of before f ≡ event.Close (close_in f.payload)
close_event before f e =
    let opcode : f.opcode ≡ 8 = eqb-true f.opcode 8 e in
    ap (λ n. cond (nat_le 8 n) (cond (n == 8) (event.Close (close_in f.payload)) (cond (n == 9) (event.Ping f.payload) (event.Pong f.payload))) (cond f.fin (event.Message (message_of ((groups_of (data_frames before)).unfinished ++ f ∷ []))) event.Part)) opcode

pub closing_events : (xs : List KeyedFrame) (c : ClosesAt xs) → events_of xs None ≡ events_after [] (frames_of c.before) ++ event.Close (close_in c.last.frame.payload) ∷ []
closing_events xs c =
    ap (λ (l : List KeyedFrame). events_after [] (frames_of l)) c.parts ∙ ap (λ (l : List Frame). events_after [] l) (map-append (λ (x : KeyedFrame). x.frame) c.before (c.last ∷ []))
    ∙ events_after-append [] (frames_of c.before) (c.last.frame ∷ [])
    ∙ ap (λ (e : Event). events_after [] (frames_of c.before) ++ e ∷ []) (close_event (frames_of c.before) c.last.frame c.is)

-- what a session that isn't over has taken: frames without a close and a rest, in which there is no fault
pub record IsGoingOn (v : SessionValue) (sent : List Frame) (s : List ℕ) (ended : Bool) : Type 0 where
  pub bytes : AreBytes s
  pub frames : List KeyedFrame
  pub each : AreSent frames
  pub no_close : AllByRecursion IsNoClose frames
  pub whole : s ≡ stream_bytes frames ++ v.partial_frame
  pub left : BeginsNoFrame v.partial_frame
  pub clean : HasNoFault v.role v.limits s
  pub opened : v.opened ≡ open_message_of (frames_of frames)
  pub status : v.status ≡ status_before_close sent false
  pub goes_on : ended ≡ false
  pub sending : IsSendingOf (open_message_of sent) v.sending

going_frames : (v : SessionValue) (sent : List Frame) (s : List ℕ) (ended : Bool) (h : HasExchanged v sent s ended) → is_over (status_of sent ended h.events) ≡ false → (f : Option (ℕ × Reason)) → IsFaultOf v.role v.limits s f → h.events ≡ events_of h.has_events.frames f
    → AllByRecursion IsNoClose h.has_events.frames × HasNoFault v.role v.limits s
going_frames v sent s ended h going None is are =
    elim (closes_or_not h.has_events.frames) [
      | inl none ↦ (none, is)
      | inr c ↦ absurd (no_end sent ended (events_after [] (frames_of c.before)) (event.Close (close_in c.last.frame.payload)) tt (ap (λ (es : List Event). is_over (status_of sent ended es)) (sym (are ∙ closing_events h.has_events.frames c)) ∙ going))
    ]
going_frames v sent s ended h going (Some f) is are = absurd (no_end sent ended (events_after [] (frames_of (through_close (ending_before f.0 h.has_events.frames)))) (event.Failed f.1) tt (ap (λ (es : List Event). is_over (status_of sent ended es)) (sym are) ∙ going))

pub is_going_on : (v : SessionValue) (sent : List Frame) (s : List ℕ) (ended : Bool) → HasExchanged v sent s ended → is_over v.status ≡ false → IsGoingOn v sent s ended
is_going_on v sent s ended h going =
    let here : is_over (status_of sent ended h.events) ≡ false = ap (λ (t : Status). is_over t) (sym h.status) ∙ going in
    let at = going_on sent ended h.events here in
    let taken = h.taking going in
    let fs = going_frames v sent s ended h here h.has_events.fault h.has_events.is_fault h.has_events.are in
    record {
      bytes = h.bytes;
      frames = h.has_events.frames;
      each = h.has_events.split.each;
      no_close = fs.0;
      whole = h.has_events.split.whole ∙ ap (λ (r : List ℕ). stream_bytes h.has_events.frames ++ r) (sym taken.1);
      left = subst (λ (r : List ℕ). BeginsNoFrame r) (sym taken.1) h.has_events.split.left;
      clean = fs.1;
      opened = taken.0;
      status = h.status ∙ at.1;
      goes_on = at.0;
      sending = h.sending;
    }

-- where nothing is told the status stays
pub none_told : (status : Status) (told : Option Event) → is_some told ≡ false → status_by status told ≡ status
none_told status None none = refl
none_told status (Some e) none = absurd cc
