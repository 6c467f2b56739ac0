-- What a call that takes bytes does to a session: RFC 6455 sections 5.4, 5.5 and 6.2.
use Rattle.std.specs.Prelude.{◌≡◌, ℕ, ◌<◌, ◌≤◌, nat_le, if◌then◌else◌, false, List, [], ◌∷◌, ◌++◌, length, take, map}
use Rattle.std.specs.Prelude.{None, Result, Ok, Err, option_to_list}
use Rattle.std.specs.List.{AllByRecursion}
use Rattle.ws_wire.specs.Frame.{Frame, stream_bytes}
use Rattle.ws_session.specs.declared.event.Event.{Event}
use Rattle.ws_session.specs.declared.event.Taken.{Taken}
use Rattle.ws_session.specs.declared.event.PlacedEvent.{PlacedEvent}
use Rattle.ws_session.specs.declared.event.TakeStop.{TakeStop}
use Rattle.ws_session.specs.Events.{HasEvents}
use Rattle.ws_session.specs.Replies.{replies_by, under_key}
use Rattle.ws_session.specs.Exchange.{SessionValue, Exchange, HasExchanged}

-- a call that takes bytes: the piece and the masking key that it is handed, and what `out` holds before and after it
pub record TakeCall : Type 0 where
  pub piece : List ℕ
  pub key : List ℕ
  pub before : List ℕ
  pub after : List ℕ

-- ---- one event

-- A call took the front of a piece, of a session that has exchanged this and that replies to events so
pub record Takes (reply : Event → List Frame) (old new : SessionValue) (exchange : Exchange) (call : TakeCall)
    (taken : Taken) : Type 0 where
  pub used : taken.used ≤ length call.piece
  -- afterwards the session has also sent the frames owed for the event, and taken the bytes used
  pub agrees : HasExchanged new (exchange.sent ++ replies_by reply exchange.sent (option_to_list taken.event))
      (exchange.taken ++ take taken.used call.piece) exchange.ended
  -- the event is the one that the bytes used add
  pub event : (events : List Event) → HasEvents old.role old.limits exchange.taken events
      → HasEvents old.role old.limits (exchange.taken ++ take taken.used call.piece)
      (events ++ option_to_list taken.event)
  -- fewer bytes add none
  pub least : (n : ℕ) (events : List Event) → n < taken.used → HasEvents old.role old.limits exchange.taken events
      → HasEvents old.role old.limits (exchange.taken ++ take n call.piece) events
  -- where the piece adds none it is used whole
  pub whole : taken.event ≡ None → taken.used ≡ length call.piece
  -- the frames owed are put after what was there, under the key that was handed in if this is a client
  pub put : call.after ≡ call.before
      ++ stream_bytes (map (under_key old.role call.key) (replies_by reply exchange.sent (option_to_list taken.event)))
  pub same : (new.role ≡ old.role) × (new.limits ≡ old.limits)

-- the call does so whatever the session has exchanged, while its stream has not ended
abbrev pub HasTaken : (Event → List Frame) → SessionValue → SessionValue → TakeCall → Taken → Type 0
HasTaken reply old new call taken = (exchange : Exchange) → exchange.ended ≡ false
    → HasExchanged old exchange.sent exchange.taken exchange.ended → Takes reply old new exchange call taken

-- A call of a session that is over: the piece is used whole, nothing is told, put or changed
pub record TakesNothing (old new : SessionValue) (call : TakeCall) (taken : Taken) : Type 0 where
  pub used : taken.used ≡ length call.piece
  pub event : taken.event ≡ None
  pub unchanged : new ≡ old
  pub put : call.after ≡ call.before

-- ---- a whole piece

-- what was taken of a piece: all of it, or its first bytes where memory ran out after them
abbrev pub front_taken : {T : Type 0} → List ℕ → Result T TakeStop → List ℕ
front_taken piece (Ok done) = piece
front_taken piece (Err stop) = take stop.used piece

-- the events without their places
abbrev pub events_in : List PlacedEvent → List Event
events_in told = map (λ (placed : PlacedEvent). placed.event) told

-- the events up to the first that ends after the first n bytes
abbrev pub ending_by : ℕ → List PlacedEvent → List PlacedEvent
ending_by n [] = []
ending_by n (x ∷ xs) = if nat_le x.end n then x ∷ ending_by n xs else []

-- A call took the whole of a piece, of a session that has exchanged this and that replies to events so, and told these
pub record TakesAll (reply : Event → List Frame) (old new : SessionValue) (exchange : Exchange) (call : TakeCall)
    (told : List PlacedEvent) : Type 0 where
  -- afterwards the session has also sent the frames owed for the events, and taken the piece
  pub agrees : HasExchanged new (exchange.sent ++ replies_by reply exchange.sent (events_in told))
      (exchange.taken ++ call.piece) exchange.ended
  -- the events are those that the piece adds
  pub events : (events : List Event) → HasEvents old.role old.limits exchange.taken events
      → HasEvents old.role old.limits (exchange.taken ++ call.piece) (events ++ events_in told)
  -- its first n bytes add those that end by there: so each is told with the least number of bytes that have it
  pub places : (n : ℕ) (events : List Event) → HasEvents old.role old.limits exchange.taken events
      → HasEvents old.role old.limits (exchange.taken ++ take n call.piece) (events ++ events_in (ending_by n told))
  -- the frames owed are put after what was there, under the key that was handed in if this is a client
  pub put : call.after ≡ call.before
      ++ stream_bytes (map (under_key old.role call.key) (replies_by reply exchange.sent (events_in told)))

-- The call puts the events that it tells after those that were there, and does so whatever the session has exchanged,
-- while its stream has not ended
pub record HasTakenAll (reply : Event → List Frame) (old new : SessionValue) (call : TakeCall)
    (told_before told_after : List PlacedEvent) : Type 0 where
  pub told : List PlacedEvent
  pub added : told_after ≡ told_before ++ told
  pub within : AllByRecursion (λ (placed : PlacedEvent). placed.end ≤ length call.piece) told
  pub same : (new.role ≡ old.role) × (new.limits ≡ old.limits)
  pub takes : (exchange : Exchange) → exchange.ended ≡ false
      → HasExchanged old exchange.sent exchange.taken exchange.ended → TakesAll reply old new exchange call told
