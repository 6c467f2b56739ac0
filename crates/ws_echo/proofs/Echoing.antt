-- Piece after piece, an echo that was new.
use Rattle.std.proofs.Common.{◌≡◌, ℕ, Bool, true, false, List, [], ◌++◌, refl, sym, ap, ◌∙◌, subst, arith}
use Rattle.std.specs.Prelude.{map}
use Rattle.std.proofs.lemmas.List.{map-append}
use Rattle.std.proofs.lemmas.Grind.{flat_map-append}
use Rattle.ws_wire.specs.declared.role.Role.{Role}
use Rattle.ws_wire.specs.Frame.{Frame, KeyedFrame, frame_bytes, stream_bytes}
use Rattle.ws_session.specs.declared.event.Event.{Event}
use Rattle.ws_session.specs.declared.event.PlacedEvent.{PlacedEvent}
use Rattle.ws_session.specs.Limits.{LimitsValue}
use Rattle.ws_session.specs.Events.{HasEvents}
use Rattle.ws_session.specs.Replies.{echo_reply_to, echo_replies_of, replies_by, under_key}
use Rattle.ws_session.specs.Exchange.{SessionValue, Exchange, HasExchanged, status_of}
use Rattle.ws_session.specs.Taking.{TakesAll, HasTakenAll, events_in}
use Rattle.ws_session.specs.Sends.{most_limits}
use Rattle.ws_session.specs.Validity.{AreValidFrames}
use Rattle.ws_echo.specs.Echoes.{HasEchoed, IsEchoAfter}
use Rattle.ws_echo.specs.EchoLaws.{EchoLaws}
use Rattle.ws_echo.specs.InnerEchoing.{piece_call}

-- what an echo puts for its events
abbrev pub echo_bytes : Role → List ℕ → List Event → List ℕ
echo_bytes role key events = stream_bytes (map (under_key role key) (echo_replies_of [] events))

pub nothing_is_valid : AreValidFrames most_limits []
nothing_is_valid = record {
  each = tt;
  sizes = tt;
  close = tt;
  finished = tt;
  unfinished = record { frames = tt; size = omega arith; text = tt };
}

abbrev exchange_of : List Frame → List ℕ → Exchange
exchange_of sent taken = record { sent = sent; taken = taken; ended = false }

put_more : (role : Role) (key : List ℕ) (fs gs : List Frame) → stream_bytes (map (under_key role key) (fs ++ gs)) ≡ stream_bytes (map (under_key role key) fs) ++ stream_bytes (map (under_key role key) gs)
put_more role key fs gs = ap (λ (l : List KeyedFrame). stream_bytes l) (map-append (under_key role key) fs gs) ∙ flat_map-append frame_bytes (map (under_key role key) fs) (map (under_key role key) gs)

-- the same events at an equal role and equal limits
pub at_equal : (r s : Role) (l m : LimitsValue) → r ≡ s → l ≡ m → (bytes : List ℕ) (events : List Event) → HasEvents r l bytes events → HasEvents s m bytes events
at_equal r s l m e f bytes events has = subst (λ (k : LimitsValue). HasEvents s k bytes events) f (subst (λ (k : Role). HasEvents k l bytes events) e has)

-- before the first piece
pub echo_new : EchoLaws → (role : Role) (limits : LimitsValue) (key : List ℕ) (session : SessionValue) → session.role ≡ role → session.limits ≡ limits → HasExchanged session [] [] false
    → IsEchoAfter role limits key [] false [] session
echo_new laws role limits key session r l h =
    record { events = []; has_events = laws.nothing role limits; is_put = refl; exchanged = h; same = (r, l) }

-- what a piece adds
pub record Grown (role : Role) (limits : LimitsValue) (key bytes put : List ℕ) (before after : List ℕ) (session : SessionValue) : Type 0 where
  pub more : List ℕ
  pub added : after ≡ before ++ more
  pub stands : IsEchoAfter role limits key bytes false (put ++ more) session

-- one more piece
pub echo_more : EchoLaws → (role : Role) (limits : LimitsValue) (key : List ℕ) (old new : SessionValue) (bytes put piece before after : List ℕ) (told_before told_after : List PlacedEvent)
    → IsEchoAfter role limits key bytes false put old → HasTakenAll echo_reply_to old new (piece_call piece key before after) told_before told_after → Grown role limits key (bytes ++ piece) put before after new
echo_more laws role limits key old new bytes put piece before after told_before told_after is taken =
    let later = events_in taken.told in
    let sent : List Frame = echo_replies_of [] is.events in
    let t : TakesAll echo_reply_to old new (exchange_of sent bytes) (piece_call piece key before after) taken.told = taken.takes (exchange_of sent bytes) refl is.exchanged in
    let replied : List Frame = replies_by echo_reply_to sent later in
    let all : echo_replies_of [] (is.events ++ later) ≡ sent ++ replied = laws.replies is.events later in
    record {
      more = stream_bytes (map (under_key role key) replied);
      added = t.put ∙ ap (λ (k : Role). before ++ stream_bytes (map (under_key k key) replied)) is.same.0;
      stands = record {
        events = is.events ++ later;
        has_events =
            at_equal old.role role old.limits limits is.same.0 is.same.1 (bytes ++ piece) (is.events ++ later)
            (t.events is.events (at_equal role old.role limits old.limits (sym is.same.0) (sym is.same.1) bytes is.events is.has_events));
        is_put =
            ap (λ (l : List ℕ). l ++ stream_bytes (map (under_key role key) replied)) is.is_put
            ∙ sym (put_more role key sent replied) ∙ ap (λ (l : List Frame). stream_bytes (map (under_key role key) l)) (sym all);
        exchanged = subst (λ (l : List Frame). HasExchanged new l (bytes ++ piece) false) (sym all) t.agrees;
        same = (taken.same.0 ∙ is.same.0, taken.same.1 ∙ is.same.1);
      };
    }

-- the stream has ended
pub echo_ended : (role : Role) (limits : LimitsValue) (key : List ℕ) (old new : SessionValue) (bytes put : List ℕ) → IsEchoAfter role limits key bytes false put old
    → ((sent : List Frame) (taken : List ℕ) (ended : Bool) → HasExchanged old sent taken ended → HasExchanged new sent taken true) → new.role ≡ old.role → new.limits ≡ old.limits
    → IsEchoAfter role limits key bytes true put new
echo_ended role limits key old new bytes put is ends r l = record {
  events = is.events;
  has_events = is.has_events;
  is_put = is.is_put;
  exchanged = ends (echo_replies_of [] is.events) bytes false is.exchanged;
  same = (r ∙ is.same.0, l ∙ is.same.1);
}

-- what an echo has put, and how it stands
pub has_echoed : EchoLaws → (role : Role) (limits : LimitsValue) (key : List ℕ) (session : SessionValue) (bytes put : List ℕ) (ended : Bool) → IsEchoAfter role limits key bytes ended put session
    → HasEchoed role limits key bytes ended put session.status
has_echoed laws role limits key session bytes put ended is =
    let here : HasEvents session.role session.limits bytes is.events = at_equal role session.role limits session.limits (sym is.same.0) (sym is.same.1) bytes is.events is.has_events in
    let same : is.exchanged.events ≡ is.events = laws.one_list session.role session.limits bytes is.exchanged.events is.events is.exchanged.has_events here in
    record {
      events = is.events;
      has_events = is.has_events;
      is_put = is.is_put;
      is_status = is.exchanged.status ∙ ap (λ (l : List Event). status_of (echo_replies_of [] is.events) ended l) same;
    }

-- the replies to the front of some bytes begin the replies to all of them
pub front_begins : EchoLaws → (role : Role) (limits : LimitsValue) (key front later put all : List ℕ) (events : List Event) → HasEvents role limits front events → put ≡ echo_bytes role key events
    → (others : List Event) → HasEvents role limits (front ++ later) others → all ≡ echo_bytes role key others → (rest : List ℕ) × (all ≡ put ++ rest)
front_begins laws role limits key front later put all events has is others more are =
    let (next, parts) = laws.go_on role limits front later events others has more in
    let replied : List Frame = replies_by echo_reply_to (echo_replies_of [] events) next in (
      stream_bytes (map (under_key role key) replied),
      are ∙ ap (λ (l : List Event). echo_bytes role key l) parts ∙ ap (λ (l : List Frame). stream_bytes (map (under_key role key) l)) (laws.replies events next)
          ∙ put_more role key (echo_replies_of [] events) replied ∙ ap (λ (l : List ℕ). l ++ stream_bytes (map (under_key role key) replied)) (sym is),
    )

-- what is put into an empty buffer for a piece
pub piece_answered : EchoLaws → (role : Role) (limits : LimitsValue) (key given : List ℕ) (old new : SessionValue) (bytes put piece before after shown : List ℕ) (told_before told_after : List PlacedEvent)
    → key ≡ given → IsEchoAfter role limits key bytes false put old → HasTakenAll echo_reply_to old new (piece_call piece given before after) told_before told_after → before ≡ [] → shown ≡ after
    → IsEchoAfter role limits key (bytes ++ piece) false (put ++ shown) new
piece_answered laws role limits key given old new bytes put piece before after shown told_before told_after e is taken empty same =
    let under : HasTakenAll echo_reply_to old new (piece_call piece key before after) told_before told_after =
    subst (λ (k : List ℕ). HasTakenAll echo_reply_to old new (piece_call piece k before after) told_before told_after) (sym e) taken in
    let g = echo_more laws role limits key old new bytes put piece before after told_before told_after is under in
    let more : g.more ≡ shown = sym (same ∙ g.added ∙ ap (λ (l : List ℕ). l ++ g.more) empty) in
    subst (λ (l : List ℕ). IsEchoAfter role limits key (bytes ++ piece) false (put ++ l) new) more g.stands
