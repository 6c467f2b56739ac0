-- Inside the crate: what holds of every session, for its invariant. A reader may skip this file.
use Rattle.std.specs.Prelude.{◌≡◌, ℕ, ◌+◌, ◌≤◌, true, List, [], ◌∷◌, ◌++◌, length, Option, Some, None}
use Rattle.ws_wire.specs.Frame.{Frame}
use Rattle.ws_session.specs.declared.limits.TheConstants.{MAX_MESSAGE}
use Rattle.ws_session.specs.declared.message.Message.{Message}
use Rattle.ws_session.specs.declared.event.Event.{Event}
use Rattle.ws_session.specs.declared.event.Event.TheVariants as event
use Rattle.ws_session.specs.Limits.{most_beside}
use Rattle.ws_session.specs.Faults.{open_payload}
use Rattle.ws_session.specs.Replies.{reply_to, message_frame}
use Rattle.ws_session.specs.Exchange.{SendingValue, SessionValue, is_over}
use Rattle.ws_session.specs.Taking.{TakeCall, HasTaken}
use Rattle.ws_session.specs.declared.event.PlacedEvent.{PlacedEvent}
use Rattle.ws_session.specs.declared.session.Answering.{Answering}
use Rattle.ws_session.specs.declared.session.Answering.TheVariants.{Plain, Echoing}
use Rattle.ws_session.specs.InnerNextFrame.{IsPartOfFrame}

-- what is kept is a part of one frame and a message within the limits, and nothing once all is over
pub record IsSound (v : SessionValue) : Type 0 where
  pub part : IsPartOfFrame v.role v.limits v.opened v.partial_frame
  pub limit : v.limits.max_message ≤ MAX_MESSAGE
  pub size : length (open_payload v.opened) ≤ v.limits.max_message
  pub held : length (open_payload v.opened) + length v.partial_frame ≤ v.limits.max_message + most_beside
  pub kept : v.kept ≤ v.limits.max_message
  pub over : is_over v.status ≡ true → length (open_payload v.opened) + length v.partial_frame ≡ 0

-- ---- replies

-- what is owed for a message
abbrev pub reply_to_message : Answering → Message → List Frame
reply_to_message Plain message = []
reply_to_message Echoing message = message_frame message ∷ []

-- what is owed for an event: an echo sends the messages back too
abbrev pub reply_by : Answering → Event → List Frame
reply_by answering (event.Message message) = reply_to_message answering message
reply_by answering e = reply_to e

-- an echo has no open message on its sending side
abbrev pub CanAnswer : Answering → Option SendingValue → Type 0
CanAnswer Plain sending = Unit {0}
CanAnswer Echoing sending = sending ≡ None

-- ---- a piece, front by front

-- the event, if there is one, at this place
abbrev pub placed_at : ℕ → Option Event → List PlacedEvent
placed_at end None = []
placed_at end (Some e) = record { event = e; end = end } ∷ []

-- A call used so many bytes of what is left of a piece, of which some were taken before, and told of them
pub record HasTakenFront (reply : Event → List Frame) (old new : SessionValue) (call : TakeCall) (before used : ℕ)
    (told_before told_after : List PlacedEvent) : Type 0 where
  pub event : Option Event
  pub added : told_after ≡ told_before ++ placed_at (before + used) event
  pub same : (new.role ≡ old.role) × (new.limits ≡ old.limits)
  pub takes : HasTaken reply old new call (record { used = used; event = event })
