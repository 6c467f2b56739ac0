-- What an application owes for the events that it is told: while it closes nothing each ping is answered, and a close
-- or a fault has a close for it.
use Rattle.std.proofs.Common.{◌≡◌, ◌∙◌, ℕ, Bool, true, false, cond, ◌||◌, List, [], ◌∷◌, ◌++◌, flat_map, Option, Some, None, ap, sym, refl, subst, append_assoc, append-nil}
use Rattle.std.specs.List.{list_any}
use Rattle.std.proofs.lemmas.List.Folds.{list_any-append}
use Rattle.ws_wire.specs.declared.role.Role.{Role}
use Rattle.ws_wire.specs.Frame.{Frame}
use Rattle.ws_session.specs.declared.event.Event.{Event}
use Rattle.ws_session.specs.declared.event.Event.TheVariants as event
use Rattle.ws_session.specs.declared.reason.Reason.{Reason}
use Rattle.ws_session.specs.declared.status.Status.TheVariants.{Closing, Open}
use Rattle.ws_session.specs.Events.{HasEvents}
use Rattle.ws_session.specs.Exchange.{is_over, last_event, status_after, status_of}
use Rattle.ws_session.specs.Messages.{is_close}
use Rattle.ws_session.specs.Replies.{has_close, replies_by, reply_to, until_close}
use Rattle.ws_session.specs.Sends.{most_limits}
use Rattle.ws_suite.specs.AppFairness.{AnswerPings, go_on, is_ping_of, is_pong_of}
use Rattle.ws_peer.specs.InnerAppLaws.{AppLaws, ends}
use Rattle.ws_peer.proofs.AppSends.{has_close-append, none_left, none_right}

-- ---- tests

pub or_left : (a b : Bool) → a ≡ true → a || b ≡ true
or_left a b e = ap (λ x. x || b) e

pub or_right : (a b : Bool) → b ≡ true → a || b ≡ true
or_right true b e = refl
or_right false b e = e

or_both : (a b c d : Bool) → (a ≡ true → c ≡ true) → (b ≡ true → d ≡ true) → a || b ≡ true → c || d ≡ true
or_both true b c d f g h = or_left c d (f refl)
or_both false b c d f g h = or_right c d (g h)

pub no_both : (b : Bool) → b ≡ true → b ≡ false → ⊥
no_both b e f = let wrong : true ≡ false = sym e ∙ f in cc

pub opposite : (b : Bool) → cond b false true ≡ false → b ≡ true
opposite true e = refl
opposite false e = absurd cc

-- ---- the last event

either_open : (b : Bool) → is_over (cond b Closing Open) ≡ false
either_open true = refl
either_open false = refl

over_any : (sent : List Frame) (last : Option Event) → is_over (status_after sent false last) ≡ is_over (status_after [] false last)
over_any sent None = either_open (has_close sent)
over_any sent (Some event.Part) = either_open (has_close sent)
over_any sent (Some (event.Message message)) = either_open (has_close sent)
over_any sent (Some (event.Ping payload)) = either_open (has_close sent)
over_any sent (Some (event.Pong payload)) = either_open (has_close sent)
over_any sent (Some (event.Close close)) = refl
over_any sent (Some (event.Failed reason)) = refl

-- a session goes on as its events do, whatever it sent
pub go_on_is : (sent : List Frame) (events : List Event) → go_on events ≡ cond (is_over (status_of sent false events)) false true
go_on_is sent events = ap (λ b. cond b false true) (sym (over_any sent (last_event events)))

pub last_of_more : (before : List Event) (e : Event) (later : List Event) → last_event (before ++ e ∷ later) ≡ last_event (e ∷ later)
last_of_more [] e later = refl
last_of_more (b ∷ []) e later = refl
last_of_more (b ∷ c ∷ before) e later = last_of_more (c ∷ before) e later

pub go_on-more : (before : List Event) (e : Event) (later : List Event) → go_on (before ++ e ∷ later) ≡ go_on (e ∷ later)
go_on-more before e later = ap (λ (o : Option Event). cond (is_over (status_after [] false o)) false true) (last_of_more before e later)

-- ---- closes among replies

-- a close or a fault has a close for it
end_closes : (e : Event) → go_on (e ∷ []) ≡ false → has_close (reply_to e ++ []) ≡ true
end_closes event.Part h = absurd cc
end_closes (event.Message message) h = absurd cc
end_closes (event.Ping payload) h = absurd cc
end_closes (event.Pong payload) h = absurd cc
end_closes (event.Close None) h = refl
end_closes (event.Close (Some close)) h = refl
end_closes (event.Failed reason) h = refl

last_closes : (events : List Event) → go_on events ≡ false → has_close (flat_map reply_to events) ≡ true
last_closes [] h = absurd cc
last_closes (e ∷ []) h = end_closes e h
last_closes (e ∷ f ∷ events) h =
    has_close-append (reply_to e) (flat_map reply_to (f ∷ events)) ∙ or_right (has_close (reply_to e)) (has_close (flat_map reply_to (f ∷ events))) (last_closes (f ∷ events) h)

has_until_by : (b : Bool) (x : Frame) (xs : List Frame) → is_close x ≡ b → has_close (until_close xs) ≡ has_close xs → has_close (cond b (x ∷ []) (x ∷ until_close xs)) ≡ has_close (x ∷ xs)
has_until_by true x xs e h = ap (λ b. b || false) e ∙ sym (ap (λ b. b || has_close xs) e)
has_until_by false x xs e h = ap (λ b. is_close x || b) h

has_until : (xs : List Frame) → has_close (until_close xs) ≡ has_close xs
has_until [] = refl
has_until (x ∷ xs) = has_until_by (is_close x) x xs refl (has_until xs)

until_same_by : (b : Bool) (x : Frame) (xs : List Frame) → is_close x ≡ b → (has_close xs ≡ false → until_close xs ≡ xs) → is_close x || has_close xs ≡ false → cond b (x ∷ []) (x ∷ until_close xs) ≡ x ∷ xs
until_same_by true x xs e h free = absurd (no_both (is_close x) e (none_left (is_close x) (has_close xs) free))
until_same_by false x xs e h free = ap (λ (l : List Frame). x ∷ l) (h (none_right (is_close x) (has_close xs) free))

until_same : (xs : List Frame) → has_close xs ≡ false → until_close xs ≡ xs
until_same [] free = refl
until_same (x ∷ xs) free = until_same_by (is_close x) x xs refl (until_same xs) free

pub replies_at : (b : Bool) (sent : List Frame) (events : List Event) → has_close sent ≡ b → replies_by reply_to sent events ≡ cond b [] (until_close (flat_map reply_to events))
replies_at b sent events e = ap (λ x. cond x [] (until_close (flat_map reply_to events))) e

-- once a close or a fault came, a close was sent
closed_by : (b : Bool) (sent : List Frame) (events : List Event) → has_close sent ≡ b → has_close (flat_map reply_to events) ≡ true → has_close (sent ++ replies_by reply_to sent events) ≡ true
closed_by true sent events e h = has_close-append sent (replies_by reply_to sent events) ∙ or_left (has_close sent) (has_close (replies_by reply_to sent events)) e
closed_by false sent events e h =
    has_close-append sent (replies_by reply_to sent events)
    ∙ or_right (has_close sent) (has_close (replies_by reply_to sent events)) (ap (λ (l : List Frame). has_close l) (replies_at false sent events e) ∙ (has_until (flat_map reply_to events) ∙ h))

pub end_closed : (before later : List Event) (sent own : List Frame) → (go_on before ≡ false → has_close sent ≡ true) → go_on (before ++ later) ≡ false → has_close (sent ++ (replies_by reply_to sent later ++ own)) ≡ true
end_closed before [] sent own was h =
    let closed : has_close sent ≡ true = was (ap (λ (l : List Event). go_on l) (sym (append-nil before)) ∙ h) in
    has_close-append sent (replies_by reply_to sent [] ++ own) ∙ or_left (has_close sent) (has_close (replies_by reply_to sent [] ++ own)) closed
end_closed before (e ∷ later) sent own was h =
    let events = e ∷ later in
    let closed : has_close (sent ++ replies_by reply_to sent events) ≡ true = closed_by (has_close sent) sent events refl (last_closes events (sym (go_on-more before e later) ∙ h)) in
    ap (λ (l : List Frame). has_close l) (sym (append_assoc sent (replies_by reply_to sent events) own))
    ∙ (has_close-append (sent ++ replies_by reply_to sent events) own ∙ or_left (has_close (sent ++ replies_by reply_to sent events)) (has_close own) closed)

-- no close is owed where none is called for
none_owed_by : (b : Bool) (sent : List Frame) (events : List Event) → has_close sent ≡ b → has_close (flat_map reply_to events) ≡ false → has_close (replies_by reply_to sent events) ≡ false
none_owed_by true sent events e free = ap (λ (l : List Frame). has_close l) (replies_at true sent events e)
none_owed_by false sent events e free = ap (λ (l : List Frame). has_close l) (replies_at false sent events e) ∙ (has_until (flat_map reply_to events) ∙ free)

pub none_owed : (sent : List Frame) (events : List Event) → has_close (flat_map reply_to events) ≡ false → has_close (replies_by reply_to sent events) ≡ false
none_owed sent events free = none_owed_by (has_close sent) sent events refl free

-- none is called for while events go on
last_is_none : (e : Event) (later : List Event) → later ≡ [] → ends e ≡ true → go_on (e ∷ later) ≡ true → ⊥
last_is_none event.Part later none end h = no_both false end refl
last_is_none (event.Message message) later none end h = no_both false end refl
last_is_none (event.Ping payload) later none end h = no_both false end refl
last_is_none (event.Pong payload) later none end h = no_both false end refl
last_is_none (event.Close close) later none end h = no_both (go_on (event.Close close ∷ later)) h (ap (λ (l : List Event). go_on (event.Close close ∷ l)) none)
last_is_none (event.Failed reason) later none end h = no_both (go_on (event.Failed reason ∷ later)) h (ap (λ (l : List Event). go_on (event.Failed reason ∷ l)) none)

-- a close is the last event, and so is a fault
pub end_is_last : (role : Role) (bytes : List ℕ) (before later : List Event) → ((close : _) → HasEvents role most_limits bytes (before ++ event.Close close ∷ later) → later ≡ [])
    → ((reason : Reason) → HasEvents role most_limits bytes (before ++ event.Failed reason ∷ later) → later ≡ []) → (e : Event) → ends e ≡ true → HasEvents role most_limits bytes (before ++ e ∷ later) → later ≡ []
end_is_last role bytes before later closes fails event.Part end has = absurd (no_both false end refl)
end_is_last role bytes before later closes fails (event.Message message) end has = absurd (no_both false end refl)
end_is_last role bytes before later closes fails (event.Ping payload) end has = absurd (no_both false end refl)
end_is_last role bytes before later closes fails (event.Pong payload) end has = absurd (no_both false end refl)
end_is_last role bytes before later closes fails (event.Close close) end has = closes close has
end_is_last role bytes before later closes fails (event.Failed reason) end has = fails reason has

module _ (laws : AppLaws) (role : Role) (bytes : List ℕ) where
  reply_no_close : (before : List Event) (e : Event) (later : List Event) → HasEvents role most_limits bytes (before ++ e ∷ later) → go_on (before ++ e ∷ later) ≡ true → has_close (flat_map reply_to later) ≡ false
      → has_close (flat_map reply_to (e ∷ later)) ≡ false
  reply_no_close before event.Part later has goes free = free
  reply_no_close before (event.Message message) later has goes free = free
  reply_no_close before (event.Ping payload) later has goes free = free
  reply_no_close before (event.Pong payload) later has goes free = free
  reply_no_close before (event.Close close) later has goes free =
      absurd (last_is_none (event.Close close) later (laws.end_last role bytes before later (event.Close close) refl has) refl (sym (go_on-more before (event.Close close) later) ∙ goes))
  reply_no_close before (event.Failed reason) later has goes free =
      absurd (last_is_none (event.Failed reason) later (laws.end_last role bytes before later (event.Failed reason) refl has) refl (sym (go_on-more before (event.Failed reason) later) ∙ goes))

  pub no_close_called : (before later : List Event) → HasEvents role most_limits bytes (before ++ later) → go_on (before ++ later) ≡ true → has_close (flat_map reply_to later) ≡ false
  no_close_called before [] has goes = refl
  no_close_called before (e ∷ later) has goes =
      let same : before ++ e ∷ later ≡ (before ++ e ∷ []) ++ later = sym (append_assoc before (e ∷ []) later) in
      reply_no_close before e later has goes
      (no_close_called (before ++ e ∷ []) later (subst (λ (l : List Event). HasEvents role most_limits bytes l) same has) (ap (λ (l : List Event). go_on l) (sym same) ∙ goes))

-- ---- behind the end nothing is told

-- the last of some events, where it ends them
record LastEnds (events : List Event) : Type 0 where
  pub before : List Event
  pub last : Event
  pub are : events ≡ before ++ last ∷ []
  pub ending : ends last ≡ true

pub end_of : (e : Event) → go_on (e ∷ []) ≡ false → ends e ≡ true
end_of event.Part h = absurd cc
end_of (event.Message message) h = absurd cc
end_of (event.Ping payload) h = absurd cc
end_of (event.Pong payload) h = absurd cc
end_of (event.Close close) h = refl
end_of (event.Failed reason) h = refl

last_ends : (events : List Event) → go_on events ≡ false → LastEnds events
last_ends [] h = absurd cc
last_ends (e ∷ []) h = record { before = []; last = e; are = refl; ending = end_of e h }
last_ends (e ∷ f ∷ events) h =
    let l = last_ends (f ∷ events) h in
    record { before = e ∷ l.before; last = l.last; are = ap (λ (x : List Event). e ∷ x) l.are; ending = l.ending }

-- more bytes have no more events
pub ended_so : AppLaws → (role : Role) (bytes more : List ℕ) (events all : List Event) → HasEvents role most_limits bytes events → go_on events ≡ false → HasEvents role most_limits (bytes ++ more) all → all ≡ events
ended_so laws role bytes more events all has over whole =
    let (later, parts) = laws.go_on role bytes more events all has whole in
    let l = last_ends events over in
    let same : all ≡ l.before ++ l.last ∷ later = parts ∙ (ap (λ (x : List Event). x ++ later) l.are ∙ append_assoc l.before (l.last ∷ []) later) in
    let none : later ≡ [] = laws.end_last role (bytes ++ more) l.before later l.last l.ending (subst (λ (x : List Event). HasEvents role most_limits (bytes ++ more) x) same whole) in
    parts ∙ (ap (λ (x : List Event). events ++ x) none ∙ append-nil events)

-- ---- pings and pongs

-- each ping has its pong
pings_called : (payload : List ℕ) (events : List Event) → list_any (is_ping_of payload) events ≡ true → list_any (is_pong_of payload) (flat_map reply_to events) ≡ true
pings_called payload [] h = absurd cc
pings_called payload (event.Part ∷ events) h = pings_called payload events h
pings_called payload (event.Message message ∷ events) h = pings_called payload events h
pings_called payload (event.Ping other ∷ events) h =
    or_both (is_ping_of payload (event.Ping other)) (list_any (is_ping_of payload) events) (is_ping_of payload (event.Ping other)) (list_any (is_pong_of payload) (flat_map reply_to events)) (λ e. e) (pings_called payload events) h
pings_called payload (event.Pong other ∷ events) h = pings_called payload events h
pings_called payload (event.Close close ∷ events) h =
    list_any-append (is_pong_of payload) (reply_to (event.Close close)) (flat_map reply_to events)
    ∙ or_right (list_any (is_pong_of payload) (reply_to (event.Close close))) (list_any (is_pong_of payload) (flat_map reply_to events)) (pings_called payload events h)
pings_called payload (event.Failed reason ∷ events) h =
    list_any-append (is_pong_of payload) (reply_to (event.Failed reason)) (flat_map reply_to events)
    ∙ or_right (list_any (is_pong_of payload) (reply_to (event.Failed reason))) (list_any (is_pong_of payload) (flat_map reply_to events)) (pings_called payload events h)

-- while no close was sent, all that is called for was sent
all_sent : (sent : List Frame) (events : List Event) → has_close sent ≡ false → has_close (replies_by reply_to sent events) ≡ false → replies_by reply_to sent events ≡ flat_map reply_to events
all_sent sent events none free =
    let replied : replies_by reply_to sent events ≡ until_close (flat_map reply_to events) = replies_at false sent events none in
    replied ∙ until_same (flat_map reply_to events) (sym (has_until (flat_map reply_to events)) ∙ (ap (λ (l : List Frame). has_close l) (sym replied) ∙ free))

pub pings_answered : (sent own : List Frame) (events : List Event) → has_close (sent ++ (replies_by reply_to sent events ++ own)) ≡ false → AnswerPings events (replies_by reply_to sent events ++ own)
pings_answered sent own events free payload h =
    let replies = replies_by reply_to sent events in
    let parts : has_close sent || has_close (replies ++ own) ≡ false = sym (has_close-append sent (replies ++ own)) ∙ free in
    let others : has_close replies || has_close own ≡ false = sym (has_close-append replies own) ∙ none_right (has_close sent) (has_close (replies ++ own)) parts in
    let all : replies ≡ flat_map reply_to events = all_sent sent events (none_left (has_close sent) (has_close (replies ++ own)) parts) (none_left (has_close replies) (has_close own) others) in
    list_any-append (is_pong_of payload) replies own
    ∙ or_left (list_any (is_pong_of payload) replies) (list_any (is_pong_of payload) own) (ap (λ (l : List Frame). list_any (is_pong_of payload) l) all ∙ pings_called payload events h)

pub both_answered : (es fs : List Event) (xs ys : List Frame) → AnswerPings es xs → AnswerPings fs ys → AnswerPings (es ++ fs) (xs ++ ys)
both_answered es fs xs ys first second payload h =
    list_any-append (is_pong_of payload) xs ys
    ∙ or_both (list_any (is_ping_of payload) es) (list_any (is_ping_of payload) fs) (list_any (is_pong_of payload) xs) (list_any (is_pong_of payload) ys) (first payload) (second payload)
    (sym (list_any-append (is_ping_of payload) es fs) ∙ h)
