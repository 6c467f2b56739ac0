-- The laws of the layer below on what an echo owes, for proofs. A reader may skip this file.
use Rattle.std.specs.Prelude.{◌≡◌, ℕ, List, [], ◌∷◌, ◌++◌, map, Option}
use Rattle.std.specs.List.{AllByRecursion}
use Rattle.ws_wire.specs.declared.role.Role.{Role}
use Rattle.ws_wire.specs.Header.{AreBytes, IsMaskingKey}
use Rattle.ws_wire.specs.Frame.{Frame, FitsTheLayout}
use Rattle.ws_text.specs.Close.{CloseValue}
use Rattle.ws_session.specs.declared.reason.Reason.{Reason}
use Rattle.ws_session.specs.declared.event.Event.{Event}
use Rattle.ws_session.specs.declared.event.Event.TheVariants as event
use Rattle.ws_session.specs.Limits.{LimitsValue}
use Rattle.ws_session.specs.Events.{HasEvents}
use Rattle.ws_session.specs.Faults.{KeysFit}
use Rattle.ws_session.specs.Replies.{echo_replies_of, key_for, under_key}
use Rattle.ws_session.specs.Validity.{AreValidFrames}
use Rattle.ws_session.specs.Sends.{most_limits}
use Rattle.ws_suite.specs.Evidence.{other_role}
use Rattle.ws_suite.specs.InnerCollecting.{FrameLaws, EventLaws}

-- of an echo, of either role, that takes the largest messages
pub record EchoReplyLaws : Type 0 where
  pub frames : FrameLaws
  pub session : EventLaws
  pub some : (role : Role) (limits : LimitsValue) (bytes : List ℕ) → AreBytes bytes
      → (events : List Event) × HasEvents role limits bytes events
  pub close_last : (role : Role) (bytes : List ℕ) (events later : List Event) (close : Option CloseValue)
      → HasEvents role most_limits bytes (events ++ event.Close close ∷ later) → later ≡ []
  pub fault_last : (role : Role) (bytes : List ℕ) (events later : List Event) (reason : Reason)
      → HasEvents role most_limits bytes (events ++ event.Failed reason ∷ later) → later ≡ []
  pub go_on : (sent : List Frame) (events later : List Event) → echo_replies_of sent (events ++ later)
      ≡ echo_replies_of sent events ++ echo_replies_of (sent ++ echo_replies_of sent events) later
  pub valid : (role : Role) (bytes : List ℕ) (events : List Event) → HasEvents role most_limits bytes events
      → AreValidFrames most_limits (echo_replies_of [] events)
  pub layout : (role : Role) (key bytes : List ℕ) (events : List Event) → HasEvents role most_limits bytes events
      → IsMaskingKey (key_for role key)
      → AllByRecursion FitsTheLayout (map (under_key role key) (echo_replies_of [] events))
  pub keys : (role : Role) (key : List ℕ) (frames : List Frame)
      → KeysFit (other_role role) (map (under_key role key) frames)
