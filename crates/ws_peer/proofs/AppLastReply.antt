-- The last frame of an application that closes nothing by itself is the close that answers the close or the fault that
-- came.
use Rattle.std.proofs.Common.{◌≡◌, ◌∙◌, ℕ, Bool, true, false, cond, List, [], ◌∷◌, ◌++◌, length, flat_map, Some, None, ap, sym, refl, subst, arith, append_assoc, append-nil}
use Rattle.std.specs.List.{AllByRecursion}
use Rattle.std.proofs.lemmas.Grind.{flat_map-append}
use Rattle.ws_wire.specs.declared.role.Role.{Role}
use Rattle.ws_wire.specs.Header.{IsMaskingKey}
use Rattle.ws_wire.specs.Frame.{Frame}
use Rattle.ws_session.specs.declared.event.Event.{Event}
use Rattle.ws_session.specs.declared.event.Event.TheVariants as event
use Rattle.ws_session.specs.Events.{HasEvents}
use Rattle.ws_session.specs.Exchange.{last_event}
use Rattle.ws_session.specs.Faults.{frames_of}
use Rattle.ws_session.specs.Messages.{is_close}
use Rattle.ws_session.specs.Replies.{has_close, key_for, replies_by, reply_to, until_close}
use Rattle.ws_session.specs.Sends.{most_limits}
use Rattle.ws_session.specs.Validity.{CloseIsLast}
use Rattle.ws_suite.specs.AppFairness.{go_on}
use Rattle.ws_peer.specs.declared.peer.Going.{Going}
use Rattle.ws_peer.specs.Talks.{Entry, PeerEnd}
use Rattle.ws_peer.specs.Runs.{PeerGoesOn}
use Rattle.ws_peer.specs.Apps.{AppHistory, IsAppTalk, SendNoClose, TakesFed, taken_of_fed}
use Rattle.ws_peer.specs.InnerAppLaws.{AppLaws, ends}
use Rattle.ws_peer.proofs.AppReplies.{end_of, go_on-more, last_of_more, no_both, no_close_called, replies_at}
use Rattle.ws_peer.proofs.AppSends.{none_left, none_right}
use Rattle.ws_peer.proofs.AppTalkLemmas.{begin_calls}
use Rattle.ws_peer.proofs.AppTurns.{ran, still_goes}

-- ---- the close that is called for

-- one frame answers a close or a fault, and it is a close
record IsCloseReply (e : Event) : Type 0 where
  pub frame : Frame
  pub is : reply_to e ≡ frame ∷ []
  pub closes : is_close frame ≡ true

close_reply_of : (e : Event) → ends e ≡ true → IsCloseReply e
close_reply_of event.Part end = absurd (no_both false end refl)
close_reply_of (event.Message message) end = absurd (no_both false end refl)
close_reply_of (event.Ping payload) end = absurd (no_both false end refl)
close_reply_of (event.Pong payload) end = absurd (no_both false end refl)
close_reply_of (event.Close None) end = record { frame = _; is = refl; closes = refl }
close_reply_of (event.Close (Some close)) end = record { frame = _; is = refl; closes = refl }
close_reply_of (event.Failed reason) end = record { frame = _; is = refl; closes = refl }

-- up to the close all is called for, and that one
until_by : (b : Bool) (x : Frame) (xs ys : List Frame) → is_close x ≡ b → (has_close xs ≡ false → until_close (xs ++ ys) ≡ xs ++ until_close ys) → has_close (x ∷ xs) ≡ false
    → cond b (x ∷ []) (x ∷ until_close (xs ++ ys)) ≡ x ∷ (xs ++ until_close ys)
until_by true x xs ys e h free = absurd (no_both (is_close x) e (none_left (is_close x) (has_close xs) free))
until_by false x xs ys e h free = ap (λ (l : List Frame). x ∷ l) (h (none_right (is_close x) (has_close xs) free))

until_front : (xs ys : List Frame) → has_close xs ≡ false → until_close (xs ++ ys) ≡ xs ++ until_close ys
until_front [] ys free = refl
until_front (x ∷ xs) ys free = until_by (is_close x) x xs ys refl (until_front xs ys) free

until_one : (frame : Frame) → is_close frame ≡ true → until_close (frame ∷ []) ≡ frame ∷ []
until_one frame e = ap (λ b. cond b (frame ∷ []) (frame ∷ [])) e

-- nothing follows a close
close_ends : (xs : List Frame) (frame : Frame) (ys : List Frame) → CloseIsLast (xs ++ frame ∷ ys) → is_close frame ≡ true → ys ≡ []
close_ends [] frame ys h e = (h.0 e).0
close_ends (x ∷ xs) frame ys h e = close_ends xs frame ys h.1 e

-- ---- the last event

-- the events before the last one, of which there is one
record HasLast (events : List Event) : Type 0 where
  pub front : List Event
  pub last : Event
  pub are : events ≡ front ++ last ∷ []

has_last : (e : Event) (events : List Event) → HasLast (e ∷ events)
has_last e [] = record { front = []; last = e; are = refl }
has_last e (f ∷ events) =
    let l = has_last f events in
    record { front = e ∷ l.front; last = l.last; are = ap (λ (x : List Event). e ∷ x) l.are }

some_event : (e f : Event) → Some e ≡ Some f → e ≡ f
some_event e f h = cc

last_same : (xs ys : List Event) (e f : Event) → xs ++ e ∷ [] ≡ ys ++ f ∷ [] → e ≡ f
last_same xs ys e f h = some_event e f (sym (last_of_more xs e []) ∙ (ap (λ (l : List Event). last_event l) h ∙ last_of_more ys f []))

some_behind : (xs : List Event) (e : Event) → xs ++ e ∷ [] ≡ [] → ⊥
some_behind [] e h = cc
some_behind (x ∷ xs) e h = cc

-- none before the last one ends what comes
module _ (laws : AppLaws) (role : Role) (bytes : List ℕ) where
  ends_not : (b : Bool) (before : List Event) (e : Event) (later : List Event) (last : Event) → ends e ≡ b → HasEvents role most_limits bytes (before ++ e ∷ (later ++ last ∷ [])) → ends e ≡ false
  ends_not true before e later last end has = absurd (some_behind later last (laws.end_last role bytes before (later ++ last ∷ []) e end has))
  ends_not false before e later last end has = end

  no_close_by : (e : Event) (frames : List Frame) → ends e ≡ false → has_close frames ≡ false → has_close (reply_to e ++ frames) ≡ false
  no_close_by event.Part frames end free = free
  no_close_by (event.Message message) frames end free = free
  no_close_by (event.Ping payload) frames end free = free
  no_close_by (event.Pong payload) frames end free = free
  no_close_by (event.Close close) frames end free = absurd (no_both true refl end)
  no_close_by (event.Failed reason) frames end free = absurd (no_both true refl end)

  no_close_before : (before front : List Event) (last : Event) → HasEvents role most_limits bytes (before ++ (front ++ last ∷ [])) → has_close (flat_map reply_to front) ≡ false
  no_close_before before [] last has = refl
  no_close_before before (e ∷ front) last has =
      let same : before ++ e ∷ (front ++ last ∷ []) ≡ (before ++ e ∷ []) ++ (front ++ last ∷ []) = sym (append_assoc before (e ∷ []) (front ++ last ∷ [])) in
      no_close_by e (flat_map reply_to front) (ends_not (ends e) before e front last refl has)
      (no_close_before (before ++ e ∷ []) front last (subst (λ (l : List Event). HasEvents role most_limits bytes l) same has))

-- ---- the last call

-- the frames end with the reply to this event
abbrev pub EndsWithReply : List Frame → Event → Type 0
EndsWithReply frames e = (front : List Frame) × (frames ≡ front ++ reply_to e)

module _ (laws : AppLaws) (end : PeerEnd) (old new : AppHistory) (piece appended : List ℕ) (going : Going) (t : TakesFed end old new piece appended going) (open_yet : has_close old.sent ≡ false) where
  replied : (front : List Event) (last : Event) → t.later ≡ front ++ last ∷ [] → ends last ≡ true → EndsWithReply new.sent last
  replied front last are end_last =
      let r = close_reply_of last end_last in
      let called = flat_map reply_to front in
      let own = frames_of t.own in
      let has : HasEvents end.role most_limits (taken_of_fed new) (t.before ++ (front ++ last ∷ [])) = subst (λ (l : List Event). HasEvents end.role most_limits (taken_of_fed new) (t.before ++ l)) are t.has in
      let free = no_close_before laws end.role (taken_of_fed new) t.before front last has in
      let all : flat_map reply_to t.later ≡ called ++ r.frame ∷ [] =
      ap (λ (l : List Event). flat_map reply_to l) are ∙ (flat_map-append reply_to front (last ∷ []) ∙ ap (λ (l : List Frame). called ++ l) (append-nil (reply_to last) ∙ r.is)) in
      let replies : replies_by reply_to old.sent t.later ≡ called ++ r.frame ∷ [] =
      replies_at false old.sent t.later open_yet ∙ (ap (λ (l : List Frame). until_close l) all
      ∙ (until_front called (r.frame ∷ []) free ∙ ap (λ (l : List Frame). called ++ l) (until_one r.frame r.closes))) in
      let sent : new.sent ≡ (old.sent ++ called) ++ r.frame ∷ own =
      t.sent ∙ (ap (λ (l : List Frame). old.sent ++ (l ++ own)) replies ∙ (ap (λ (l : List Frame). old.sent ++ l) (append_assoc called (r.frame ∷ []) own) ∙ sym (append_assoc old.sent called (r.frame ∷ own)))) in
      let nothing : own ≡ [] = close_ends (old.sent ++ called) r.frame own (subst (λ (l : List Frame). CloseIsLast l) sent t.valid.close) r.closes in
      (old.sent ++ called, sent ∙ (ap (λ (l : List Frame). (old.sent ++ called) ++ r.frame ∷ l) nothing ∙ ap (λ (l : List Frame). (old.sent ++ called) ++ l) (sym r.is)))

  last_by : (later : List Event) → t.later ≡ later → go_on t.before ≡ true → (before : List Event) (last : Event) → t.before ++ t.later ≡ before ++ last ∷ [] → go_on (last ∷ []) ≡ false → EndsWithReply new.sent last
  last_by [] is goes before last are over =
      let same : t.before ≡ before ++ last ∷ [] = sym (append-nil t.before) ∙ (ap (λ (l : List Event). t.before ++ l) (sym is) ∙ are) in
      absurd (no_both (go_on t.before) goes (ap (λ (l : List Event). go_on l) same ∙ (go_on-more before last [] ∙ over)))
  last_by (e ∷ later) is goes before last are over =
      let l = has_last e later in
      let whole : t.later ≡ l.front ++ l.last ∷ [] = is ∙ l.are in
      let same : l.last ≡ last =
      last_same (t.before ++ l.front) before l.last last (append_assoc t.before l.front (l.last ∷ []) ∙ (ap (λ (x : List Event). t.before ++ x) (sym whole) ∙ are)) in
      replied l.front last (whole ∙ ap (λ (x : Event). l.front ++ x ∷ []) same) (end_of last over)

  -- after events that went on, the last of the new ones is answered last
  pub last_answered : go_on t.before ≡ true → (before : List Event) (last : Event) → t.before ++ t.later ≡ before ++ last ∷ [] → go_on (last ∷ []) ≡ false → EndsWithReply new.sent last
  last_answered goes before last are over = last_by t.later refl goes before last are over

-- ---- the calls before

-- after calls after each of which it went on, it has closed nothing
pub closed_nothing : AppLaws → (end : PeerEnd) → IsMaskingKey (key_for end.role end.key) → (front later : List Entry) (said : ℕ → AppHistory) → IsAppTalk end (front ++ later) said → AllByRecursion PeerGoesOn front
    → SendNoClose end.plan → has_close (said (length front)).sent ≡ false
closed_nothing laws end is_key front later said is goes none =
    let r = ran laws end is_key said 0 (length front) front (begin_calls end front later said is) (omega arith) in
    let begun : HasEvents end.role most_limits (taken_of_fed (said 0)) [] = subst (λ (x : AppHistory). HasEvents end.role most_limits (taken_of_fed x) []) (sym is.begun) (laws.nothing end.role) in
    let has = r.has [] begun in
    let going = still_goes laws end front later said is goes r.later has in
    let free = no_close_called laws end.role (taken_of_fed (said (length front))) [] r.later has going in
    let plan : SendNoClose (said 0).plan = subst (λ (x : AppHistory). SendNoClose x.plan) (sym is.begun) none in
    ap (λ (l : List Frame). has_close l) (r.sent ∙ ap (λ (x : AppHistory). x.sent ++ frames_of r.keyed) is.begun) ∙ r.quiet plan free
