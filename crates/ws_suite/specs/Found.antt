-- What was wrong in the bytes that came: the place of the first fault and the bytes that show it, and the first bytes
-- behind the last event. RFC 6455 sections 5.1 to 5.6, 7.4 and 8.1.
use Rattle.std.specs.Prelude.{◌≡◌, ℕ, ◌-◌, Bool, true, false, if◌then◌else◌, List, length, take, drop, Option}
use Rattle.std.specs.Prelude.{Some, None}
use Rattle.ws_wire.specs.declared.role.Role.{Role}
use Rattle.ws_wire.specs.Header.{HeaderFields, header_bytes}
use Rattle.ws_session.specs.declared.event.Event.{Event}
use Rattle.ws_session.specs.declared.reason.Reason.{Reason}
use Rattle.ws_session.specs.declared.reason.Reason.TheVariants.{ReservedBits, Opcode, MaskWrong, NotShortest, BadLength}
use Rattle.ws_session.specs.declared.reason.Reason.TheVariants.{ControlCut, ControlLong, NothingToContinue, MessageOpen}
use Rattle.ws_session.specs.declared.reason.Reason.TheVariants.{TooBig, NotText, TextCut, CloseOneByte, CloseCode}
use Rattle.ws_session.specs.declared.reason.Reason.TheVariants.{CloseReason, FrameBig}
use Rattle.ws_session.specs.Events.{HasEvents}
use Rattle.ws_session.specs.Faults.{HasNoFault, IsFirstFault}
use Rattle.ws_session.specs.Sends.{most_limits}
use Rattle.ws_suite.specs.declared.evidence.found.Found.{Found}
use Rattle.ws_suite.specs.declared.evidence.found.FoundFault.{FoundFault}
use Rattle.ws_suite.specs.Marks.{StandBehind}

-- the reason is one of the payload: text, or what stands in a close frame; others the header decides
abbrev pub is_of_payload : Reason → Bool
is_of_payload ReservedBits = false
is_of_payload Opcode = false
is_of_payload MaskWrong = false
is_of_payload NotShortest = false
is_of_payload BadLength = false
is_of_payload ControlCut = false
is_of_payload ControlLong = false
is_of_payload NothingToContinue = false
is_of_payload MessageOpen = false
is_of_payload TooBig = false
is_of_payload NotText = true
is_of_payload TextCut = true
is_of_payload CloseOneByte = true
is_of_payload CloseCode = true
is_of_payload CloseReason = true
is_of_payload FrameBig = false

-- the last bytes, at most sixteen
abbrev pub last_sixteen : List ℕ → List ℕ
last_sixteen bytes = drop (length bytes - 16) bytes

-- what shows a fault: the header of its frame as it came, or where the payload is at fault so much of that as came up
-- to the place, unmasked, of which the last bytes
abbrev pub bytes_shown : Reason → HeaderFields → List ℕ → List ℕ
bytes_shown reason header payload = if is_of_payload reason then last_sixteen payload else header_bytes header

-- this is the first fault of the bytes: with its place, and what shows it
pub record ShowsFault (role : Role) (bytes : List ℕ) (fault : FoundFault) : Type 0 where
  pub reason : Reason
  pub is_first : IsFirstFault role most_limits bytes fault.place reason
  pub shown : fault.bytes.items ≡ bytes_shown reason is_first.fault.header is_first.fault.payload

-- so it is, if there is one
abbrev pub IsFoundFault : Role → List ℕ → Option FoundFault → Type 0
IsFoundFault role bytes None = HasNoFault role most_limits bytes
IsFoundFault role bytes (Some fault) = ShowsFault role bytes fault

-- the first bytes behind the last event, at most sixteen
pub record AreFirstBehind (role : Role) (bytes shown : List ℕ) : Type 0 where
  pub events : List Event
  pub are_events : HasEvents role most_limits bytes events
  pub behind : List ℕ
  pub stand_behind : StandBehind role bytes events behind
  pub first : shown ≡ take 16 behind

-- what is found in bytes that came to an endpoint of this role
pub record ShowsFound (role : Role) (bytes : List ℕ) (found : Found) : Type 0 where
  pub fault : IsFoundFault role bytes found.fault
  pub behind : AreFirstBehind role bytes found.behind.items
