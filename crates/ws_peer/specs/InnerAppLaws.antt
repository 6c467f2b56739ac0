-- The laws of the layer below that serve an application's talk. A reader may skip this file: no public contract speaks
-- of it.
use Rattle.std.specs.Prelude.{◌≡◌, ℕ, Bool, true, false, List, [], ◌∷◌, ◌++◌, map, Result, Ok, Err}
use Rattle.std.specs.List.{AllByRecursion}
use Rattle.ws_wire.specs.declared.role.Role.{Role}
use Rattle.ws_wire.specs.Header.{AreBytes, IsMaskingKey}
use Rattle.ws_wire.specs.Frame.{Frame, FitsTheLayout}
use Rattle.ws_session.specs.declared.event.Event.{Event}
use Rattle.ws_session.specs.declared.event.Event.TheVariants as event
use Rattle.ws_session.specs.Events.{HasEvents}
use Rattle.ws_session.specs.Replies.{key_for, replies_of, under_key}
use Rattle.ws_session.specs.declared.send_fault.SendFault.{SendFault}
use Rattle.ws_session.specs.declared.send_fault.SendFault.TheVariants.{NoMemory}
use Rattle.ws_session.specs.declared.status.Status.{Status}
use Rattle.ws_session.specs.Limits.{LimitsValue}
use Rattle.ws_session.specs.Sends.{Send, HasTextReason, MaySend, frame_of, most_limits}
use Rattle.ws_session.specs.Validity.{AreValidFrames}

-- a close or a fault
abbrev pub ends : Event → Bool
ends (event.Close close) = true
ends (event.Failed reason) = true
ends _ = false

pub record AppLaws : Type 0 where
  -- no bytes have no events
  pub nothing : (role : Role) → HasEvents role most_limits [] []
  -- some bytes have events
  pub some : (role : Role) (bytes : List ℕ) → AreBytes bytes →
      (events : List Event) × HasEvents role most_limits bytes events
  -- and they have one list of events
  pub one_list : (role : Role) (bytes : List ℕ) (events others : List Event) →
      HasEvents role most_limits bytes events → HasEvents role most_limits bytes others → events ≡ others
  -- more bytes leave the events before them
  pub go_on : (role : Role) (bytes more : List ℕ) (events all : List Event) →
      HasEvents role most_limits bytes events → HasEvents role most_limits (bytes ++ more) all →
      (later : List Event) × (all ≡ events ++ later)
  -- a close or a fault is the last event
  pub end_last : (role : Role) (bytes : List ℕ) (events later : List Event) (e : Event) → ends e ≡ true →
      HasEvents role most_limits bytes (events ++ e ∷ later) → later ≡ []
  -- the replies to what comes leave valid frames valid, and they can be sent
  pub valid : (role : Role) (bytes : List ℕ) (events later : List Event) (sent : List Frame) →
      HasEvents role most_limits bytes (events ++ later) → AreValidFrames most_limits sent →
      AreValidFrames most_limits (sent ++ replies_of sent later)
  pub can : (role : Role) (bytes key : List ℕ) (events later : List Event) (sent : List Frame) →
      HasEvents role most_limits bytes (events ++ later) → IsMaskingKey (key_for role key) →
      AllByRecursion FitsTheLayout (map (under_key role key) (replies_of sent later))

-- ---- sends

abbrev pub IsNotForMemory : SendFault → Type 0
IsNotForMemory NoMemory = ⊥
IsNotForMemory _ = Unit {0}

-- a send was done, or refused for what is wrong with it
abbrev pub IsDoneOrRefused : {X : Type 0} → Result X SendFault → Type 0
IsDoneOrRefused (Ok done) = Unit {0}
IsDoneOrRefused (Err why) = IsNotForMemory why

pub record SendLaws : Type 0 where
  -- bytes have one list of events
  pub one_list : (role : Role) (limits : LimitsValue) (bytes : List ℕ) (events others : List Event) →
      HasEvents role limits bytes events → HasEvents role limits bytes others → events ≡ others
  -- what may be sent leaves valid frames valid
  pub valid : (sent : List Frame) (status : Status) (send : Send) → AreValidFrames most_limits sent →
      HasTextReason send → MaySend sent status send → AreValidFrames most_limits (sent ++ frame_of send ∷ [])
