-- The laws of the layer below that serve here. A reader may skip this file: no public contract speaks of it.
use Rattle.std.specs.Prelude.{◌≡◌, ℕ, List, [], ◌++◌}
use Rattle.ws_wire.specs.declared.role.Role.{Role}
use Rattle.ws_session.specs.declared.event.Event.{Event}
use Rattle.ws_session.specs.Limits.{LimitsValue}
use Rattle.ws_session.specs.Events.{HasEvents}
use Rattle.ws_session.specs.Replies.{echo_replies_of, replies_by, echo_reply_to}

pub record EchoLaws : Type 0 where
  -- no bytes have no events
  pub nothing : (role : Role) (limits : LimitsValue) → HasEvents role limits [] []
  -- some bytes have one list of events
  pub one_list : (role : Role) (limits : LimitsValue) (bytes : List ℕ) (events others : List Event) →
      HasEvents role limits bytes events → HasEvents role limits bytes others → events ≡ others
  -- more bytes leave the events before them
  pub go_on : (role : Role) (limits : LimitsValue) (bytes more : List ℕ) (events all : List Event) →
      HasEvents role limits bytes events → HasEvents role limits (bytes ++ more) all →
      (later : List Event) × (all ≡ events ++ later)
  -- the replies to more events are those to the first and then those to the others
  pub replies : (events later : List Event) → echo_replies_of [] (events ++ later)
      ≡ echo_replies_of [] events ++ replies_by echo_reply_to (echo_replies_of [] events) later
