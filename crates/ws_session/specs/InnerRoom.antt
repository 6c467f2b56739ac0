-- Inside the crate: the room in which an event is left, for contracts of private functions. A reader may skip this
-- file.
use Rattle.std.specs.Prelude.{◌≡◌, ℕ, ◌≤◌, List, [], take, Option, Some, None}
use Rattle.ws_text.specs.Close.{CloseValue}
use Rattle.ws_session.specs.declared.event.Event.{Event}
use Rattle.ws_session.specs.declared.event.Event.TheVariants as event
use Rattle.ws_session.specs.declared.event_room.Told.{Told}
use Rattle.ws_session.specs.declared.event_room.Told.TheVariants as told

-- the event that is told, with the payload of a message, the first bytes of the room for a control frame's, or what a
-- close says
abbrev pub event_kept : Told → List ℕ → List ℕ → ℕ → Option CloseValue → Option Event
event_kept told.Nothing message control n close = None
event_kept told.Part message control n close = Some event.Part
event_kept (told.Message kind) message control n close =
    Some (event.Message (record { kind = kind; payload = message }))
event_kept told.Ping message control n close = Some (event.Ping (take n control))
event_kept told.Pong message control n close = Some (event.Pong (take n control))
event_kept told.Close message control n close = Some (event.Close close)
event_kept (told.Failed reason) message control n close = Some (event.Failed reason)

-- the room for a message is empty where none is told
abbrev pub IsEmptyBeside : Told → List ℕ → Type 0
IsEmptyBeside (told.Message kind) message = Unit {0}
IsEmptyBeside _ message = message ≡ []

pub record IsRoomKept (is : Told) (message : List ℕ) (n : ℕ) : Type 0 where
  pub short : n ≤ 125
  pub empty : IsEmptyBeside is message
