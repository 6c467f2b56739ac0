-- What is told of a frame whose payload lies in a room of the caller: RFC 6455 sections 5.4, 5.5 and 6.2.
use Rattle.std.specs.Prelude.{ℕ, List, [], Option, Some, None}
use Rattle.ws_session.specs.declared.event.Event.{Event}
use Rattle.ws_session.specs.declared.event.Event.TheVariants as event
use Rattle.ws_session.specs.declared.event.Taken.{Taken}
use Rattle.ws_session.specs.declared.payload_room.EventKind.{EventKind}
use Rattle.ws_session.specs.declared.payload_room.EventKind.TheVariants as kind
use Rattle.ws_session.specs.declared.payload_room.TakenInto.{TakenInto}

-- the event of this kind, whose payload or close reason is that
abbrev pub event_in : EventKind → List ℕ → Event
event_in kind.Part payload = event.Part
event_in (kind.Message of) payload = event.Message (record { kind = of; payload = payload })
event_in kind.Ping payload = event.Ping payload
event_in kind.Pong payload = event.Pong payload
event_in (kind.Close None) payload = event.Close None
event_in (kind.Close (Some code)) payload = event.Close (Some (record { code = code; reason = payload }))
event_in (kind.Failed reason) payload = event.Failed reason

abbrev pub event_if_any : Option EventKind → List ℕ → Option Event
event_if_any None payload = None
event_if_any (Some of) payload = Some (event_in of payload)

-- what was taken, with the event that its kind and the room make
abbrev pub taken_in : TakenInto → List ℕ → Taken
taken_in taken payload = record { used = taken.used; event = event_if_any taken.event payload }

-- the payload of an event, if there is one: of a close its reason
abbrev pub payload_in : Option Event → List ℕ
payload_in (Some (event.Message message)) = message.payload
payload_in (Some (event.Ping payload)) = payload
payload_in (Some (event.Pong payload)) = payload
payload_in (Some (event.Close (Some close))) = close.reason
payload_in _ = []
