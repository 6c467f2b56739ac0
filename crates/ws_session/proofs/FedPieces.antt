-- Piece after piece.
use Rattle.std.proofs.Common.{◌≡◌, ℕ, ◌+◌, ◌<◌, false, List, [], ◌∷◌, ◌++◌, length, get_or, take, Vec, Global, refl, sym, ap, ◌∙◌, subst}
use Rattle.std.specs.Prelude.{map}
use Rattle.std.proofs.lemmas.List.{append-nil, map-append, take_more}
use Rattle.std.proofs.lemmas.Grind.{flat_map-append}
use Rattle.ws_wire.specs.declared.role.Role.{Role}
use Rattle.ws_wire.specs.Frame.{Frame, stream_bytes}
use Rattle.ws_session.specs.declared.event.Event.{Event}
use Rattle.ws_session.specs.declared.event.PlacedEvent.{PlacedEvent}
use Rattle.ws_session.specs.Limits.{LimitsValue}
use Rattle.ws_session.specs.Events.{HasEvents}
use Rattle.ws_session.specs.Replies.{reply_to, replies_of, under_key}
use Rattle.ws_session.specs.Exchange.{SessionValue, HasExchanged, status_of, joined_pieces}
use Rattle.ws_session.specs.Taking.{TakesAll, HasTakenAll, events_in}
use Rattle.ws_session.proofs.Calls.{exchange_of, call_of}
use Rattle.ws_session.proofs.EventsGoOn.{one_events}
use Rattle.ws_session.proofs.Over.{replies-append}
use Rattle.ws_session.proofs.Fresh.{no_events}
use Rattle.ws_session.proofs.PlacedEvents.{put_more, at_session}

-- a new session took these bytes, told these events and put what is owed for them
pub record HasFed (role : Role) (limits : LimitsValue) (key : List ℕ) (session : SessionValue) (events : List Event) (put bytes : List ℕ) : Type 0 where
  pub has_events : HasEvents role limits bytes events
  pub exchanged : HasExchanged session (replies_of [] events) bytes false
  pub is_put : put ≡ stream_bytes (map (under_key role key) (replies_of [] events))
  pub same : (session.role ≡ role) × (session.limits ≡ limits)

-- before the first piece
pub fed_nothing : (role : Role) (limits : LimitsValue) (key : List ℕ) (session : SessionValue) → session.role ≡ role → session.limits ≡ limits → HasExchanged session [] [] false → HasFed role limits key session [] [] []
fed_nothing role limits key session r l h = record { has_events = no_events role limits; exchanged = h; is_put = refl; same = (r, l) }

with_role : SessionValue → Role → LimitsValue → SessionValue
with_role v role limits = record v { role = role; limits = limits }

-- one more piece
pub fed_more : (role : Role) (limits : LimitsValue) (key : List ℕ) (old new : SessionValue) (put after bytes piece : List ℕ) (told_before told_after : List PlacedEvent)
    → HasFed role limits key old (events_in told_before) put bytes → HasTakenAll reply_to old new (call_of piece key put after) told_before told_after → HasFed role limits key new (events_in told_after) after (bytes ++ piece)
unfolding with_role
fed_more role limits key old new put after bytes piece told_before told_after fed taken =
    let es = events_in told_before in
    let later = events_in taken.told in
    let t : TakesAll reply_to old new (exchange_of (replies_of [] es) bytes false) (call_of piece key put after) taken.told = taken.takes (exchange_of (replies_of [] es) bytes false) refl fed.exchanged in
    let all : events_in told_after ≡ es ++ later = ap (λ (l : List PlacedEvent). events_in l) taken.added ∙ map-append (λ (placed : PlacedEvent). placed.event) told_before taken.told in
    let more : replies_of [] (es ++ later) ≡ replies_of [] es ++ replies_of (replies_of [] es) later = replies-append [] es later in
    let plain : SessionValue = with_role old role limits in
    let now : HasEvents role limits (bytes ++ piece) (es ++ later) = at_session old plain (sym fed.same.0, sym fed.same.1) (bytes ++ piece) (es ++ later) (t.events es (at_session plain old fed.same bytes es fed.has_events)) in
    let is_put : after ≡ stream_bytes (map (under_key role key) (replies_of [] (es ++ later))) =
    t.put ∙ ap (λ (l : List ℕ). l ++ stream_bytes (map (under_key old.role key) (replies_of (replies_of [] es) later))) fed.is_put
    ∙ ap (λ (k : Role). stream_bytes (map (under_key role key) (replies_of [] es)) ++ stream_bytes (map (under_key k key) (replies_of (replies_of [] es) later))) fed.same.0
    ∙ sym (put_more role key (replies_of [] es) (replies_of (replies_of [] es) later)) ∙ ap (λ (l : List Frame). stream_bytes (map (under_key role key) l)) (sym more) in
    let moved : HasFed role limits key new (es ++ later) after (bytes ++ piece) = record {
      has_events = now;
      exchanged = subst (λ (l : List Frame). HasExchanged new l (bytes ++ piece) false) (sym more) t.agrees;
      is_put = is_put;
      same = (taken.same.0 ∙ fed.same.0, taken.same.1 ∙ fed.same.1);
    } in
    subst (λ (l : List Event). HasFed role limits key new l after (bytes ++ piece)) (sym all) moved

-- all of the pieces so far and the next one
pub joined_more : (pieces : List (Vec ℕ Global)) (i : ℕ) (d : Vec ℕ Global) → i < length pieces → joined_pieces (take (i + 1) pieces) ≡ joined_pieces (take i pieces) ++ (get_or pieces i d).items
joined_more pieces i d lt =
    ap (λ (l : List (Vec ℕ Global)). joined_pieces l) (take_more pieces i d lt) ∙ flat_map-append (λ (p : Vec ℕ Global). p.items) (take i pieces) (get_or pieces i d ∷ []) ∙ ap (λ (l : List ℕ). joined_pieces (take i pieces) ++ l) (append-nil (get_or pieces i d).items)

-- behind the last piece
pub fed_events : (role : Role) (limits : LimitsValue) (key : List ℕ) (session : SessionValue) (es : List Event) (put bytes all : List ℕ) (events : List Event) → HasFed role limits key session es put bytes → bytes ≡ all → events ≡ es → HasEvents role limits all events
fed_events role limits key session es put bytes all events fed e is = subst (λ (l : List ℕ). HasEvents role limits l events) e (subst (λ (l : List Event). HasEvents role limits bytes l) (sym is) fed.has_events)

pub fed_put : (role : Role) (limits : LimitsValue) (key : List ℕ) (session : SessionValue) (es : List Event) (put bytes after : List ℕ) (events : List Event) → HasFed role limits key session es put bytes → events ≡ es → after ≡ put → after ≡ stream_bytes (map (under_key role key) (replies_of [] events))
fed_put role limits key session es put bytes after events fed is same = same ∙ fed.is_put ∙ ap (λ (l : List Event). stream_bytes (map (under_key role key) (replies_of [] l))) (sym is)

pub fed_status : (role : Role) (limits : LimitsValue) (key : List ℕ) (session : SessionValue) (es : List Event) (put bytes : List ℕ) (events : List Event) → HasFed role limits key session es put bytes → events ≡ es → session.status ≡ status_of (replies_of [] events) false events
unfolding with_role
fed_status role limits key session es put bytes events fed is =
    let here : HasEvents session.role session.limits bytes es = at_session (with_role session role limits) session fed.same bytes es fed.has_events in
    let same : fed.exchanged.events ≡ es = one_events session.role session.limits bytes fed.exchanged.events es fed.exchanged.has_events here in
    fed.exchanged.status ∙ ap (λ (l : List Event). status_of (replies_of [] es) false l) same ∙ ap (λ (l : List Event). status_of (replies_of [] l) false l) (sym is)
