-- What the verdict by the protocol asks of the bytes of a connection beside their events: a close whose code the
-- standard leaves undefined, what is behind the last event, a message that has begun, and a fault that came too late to
-- be seen. RFC 6455 sections 5.4 to 5.6, 7.1.7, 7.4 and 8.1.
use Rattle.std.specs.Prelude.{◌≡◌, ◌≢◌, ℕ, ◌+◌, ◌-◌, ◌%◌, ◌==◌, ◌<◌, ◌≤◌, ◌⊎◌, ◌↔◌, ◌&&◌, ◌||◌, nat_le, Bool, true}
use Rattle.std.specs.Prelude.{false, MatchBool, if◌then◌else◌, List, [], ◌∷◌, ◌++◌, length, take, drop, flat_map}
use Rattle.std.specs.Prelude.{Option, Some, None, ⊤}
use Rattle.std.specs.Int.{IsInRange}
use Rattle.std.specs.List.{AllByRecursion, concat, last_or, list_any}
use Rattle.ws_wire.specs.declared.role.Role.{Role}
use Rattle.ws_wire.specs.declared.role.Role.TheVariants.{Client, Server}
use Rattle.ws_wire.specs.Frame.{WireFrame, stream_bytes, wire_bytes}
use Rattle.ws_wire.specs.Masking.{masked_payload}
use Rattle.ws_wire.specs.Stream.{SplitsIntoAnyForm}
use Rattle.ws_text.specs.Text.{IsText}
use Rattle.ws_text.specs.Close.{HoldsCode}
use Rattle.ws_session.specs.declared.event.Event.{Event}
use Rattle.ws_session.specs.declared.event.Event.TheVariants as event
use Rattle.ws_session.specs.declared.reason.Reason.{Reason}
use Rattle.ws_session.specs.declared.reason.Reason.TheVariants.{CloseCode, NotText}
use Rattle.ws_session.specs.Events.{HasEvents}
use Rattle.ws_session.specs.Faults.{Applies, IsControl, IsFirstFault, expects_key}
use Rattle.ws_session.specs.InnerDoomed.{CanEndClose}
use Rattle.ws_session.specs.Sends.{most_limits}
use Rattle.ws_scripts.specs.declared.transcript.Transcript.{Transcript}
use Rattle.ws_suite.specs.declared.evidence.InTurn.{InTurn}
use Rattle.ws_suite.specs.declared.evidence.Reply.{Reply}
use Rattle.ws_suite.specs.declared.evidence.Reply.TheVariants.{Pong}
use Rattle.ws_suite.specs.declared.evidence.Ending.{Ending}
use Rattle.ws_suite.specs.declared.evidence.Ending.TheVariants.{Closed, Failed}
use Rattle.ws_suite.specs.declared.evidence.Evidence.{Evidence}
use Rattle.ws_suite.specs.declared.evidence.marks.Marks.{Marks}
use Rattle.ws_suite.specs.Evidence.{HoldsByte, ending_in, got_turns, other_role, sent_turns}
use Rattle.ws_suite.specs.Matching.{ends_with_close}

-- ---- a close whose code the standard leaves undefined

-- 1004 and 1016 to 2999, which sections 7.4.1 and 7.4.2 keep for later, and those above 4999, of which nothing is said:
-- nobody is forbidden to send them. 1005, 1006 and 1015 may stand in no close frame, and those below 1000 are not used.
abbrev pub IsUndefinedCode : ℕ → Type 0
IsUndefinedCode code = (code ≡ 1004) ⊎ (IsInRange 1016 2999 code ⊎ (4999 < code))

-- the payload of a close frame has such a code, and a reason that is text
abbrev pub HoldsUndefinedCode : List ℕ → ℕ → Type 0
HoldsUndefinedCode payload code = (reason : List ℕ) × HoldsCode payload (record { code = code; reason = reason })
    × IsUndefinedCode code × IsText reason

-- the first fault of the bytes is that of a close frame which has this code, and the standard leaves it undefined
pub record FailsByUndefinedCode (role : Role) (bytes : List ℕ) (code : ℕ) : Type 0 where
  pub place : ℕ
  pub is_first : IsFirstFault role most_limits bytes place CloseCode
  pub holds : HoldsUndefinedCode is_first.fault.payload code

-- How what was got ends as it counts: such a fault as a close with that code, in its turn; else as it ends. The first
-- ending is what was got, the second how that counts.
abbrev pub CountsUndefinedCode : Role → List ℕ → Option (InTurn Ending) → Option (InTurn Ending) → Type 0
CountsUndefinedCode role bytes shown counted =
    ((turn code : ℕ) × (shown ≡ Some (record { turn = turn; what = Failed CloseCode }))
    × FailsByUndefinedCode role bytes code × (counted ≡ Some (record { turn = turn; what = Closed (Some code) })))
    ⊎ (((code : ℕ) → ¬ (FailsByUndefinedCode role bytes code)) × (counted ≡ shown))

-- the same evidence, with such a close counted
pub record HasUndefinedCodeCounted (tested : Role) (transcript : Transcript) (shown counted : Evidence) : Type 0 where
  pub due : counted.due ≡ shown.due
  pub replies : counted.got.replies ≡ shown.got.replies
  pub ending : CountsUndefinedCode (other_role tested) (concat (got_turns transcript.turns)) shown.got.ending
      counted.got.ending
  pub has_rest : counted.got.has_rest ≡ shown.got.has_rest
  pub turns : counted.turns ≡ shown.turns
  pub ended : counted.ended ≡ shown.ended
  pub answers_doom : counted.answers_doom ≡ shown.answers_doom

-- ---- what is behind the last event

-- All bytes but the fewest that have these events: what is behind the close or the fault, or where there is none the
-- part of a frame that has come.
pub record StandBehind (role : Role) (bytes : List ℕ) (events : List Event) (behind : List ℕ) : Type 0 where
  pub front : List ℕ
  pub parts : bytes ≡ front ++ behind
  pub same : HasEvents role most_limits front events
  pub fewest : (n : ℕ) → n < length front → ¬ (HasEvents role most_limits (take n front) events)

-- A frame has come in part, with neither a close nor a fault before it: its first byte, which has the opcode.
pub record EndsInFrame (role : Role) (bytes : List ℕ) (first : ℕ) : Type 0 where
  pub events : List Event
  pub are_events : HasEvents role most_limits bytes events
  pub goes_on : flat_map ending_in events ≡ []
  pub more : List ℕ
  pub behind : StandBehind role bytes events (first ∷ more)

-- it is a data frame (section 5.6): the opcode's highest bit is 0
abbrev pub EndsInDataFrame : Role → List ℕ → Type 0
EndsInDataFrame role bytes = (first : ℕ) × EndsInFrame role bytes first × (first % 16 < 8)

-- ---- messages

-- whether an event is of a message, and leaves that open
abbrev pub leaves_open : Event → List Bool
leaves_open event.Part = true ∷ []
leaves_open (event.Message message) = false ∷ []
leaves_open (event.Ping payload) = []
leaves_open (event.Pong payload) = []
leaves_open (event.Close close) = []
leaves_open (event.Failed reason) = []

-- a message came, or a part of one
pub record HoldData (role : Role) (bytes : List ℕ) : Type 0 where
  pub events : List Event
  pub are_events : HasEvents role most_limits bytes events
  pub some : flat_map leaves_open events ≢ []

-- the last frame of a message that came isn't its last fragment (section 5.4)
pub record LeaveFragments (role : Role) (bytes : List ℕ) : Type 0 where
  pub events : List Event
  pub are_events : HasEvents role most_limits bytes events
  pub last_open : last_or None (flat_map leaves_open events) ≡ Some true

-- A message is open: the first byte of its first frame came, and its last frame isn't whole. So fragments of it came;
-- or the first byte of a text or binary frame, which isn't whole.
abbrev pub HasOpenMessage : Role → List ℕ → Type 0
HasOpenMessage role bytes = LeaveFragments role bytes
    ⊎ ((first : ℕ) × EndsInFrame role bytes first × ((first % 16 ≡ 1) ⊎ (first % 16 ≡ 2)))

-- ---- what is behind a close

-- A ping, a pong or a close that breaks no rule where it comes to this role, whatever came before it. A code that the
-- standard leaves undefined breaks none.
pub record IsRightControl (role : Role) (x : WireFrame) : Type 0 where
  pub control : IsControl x.header
  pub right : (count : ℕ) (reason : Reason) → count ≤ length x.payload
      → Applies role most_limits None x.header (take count x.payload) reason
      → (reason ≡ CloseCode) × ((code : ℕ) × HoldsUndefinedCode x.payload code)

-- the payload so far, without its mask, where these bytes are behind the first two of a frame of at most 125 bytes
abbrev pub payload_so_far : Role → List ℕ → List ℕ
payload_so_far Client bytes = bytes
payload_so_far Server bytes = masked_payload (Some (take 4 bytes)) (drop 4 bytes)

-- a close of so many bytes, of which these came, isn't doomed: as many as are missing make one of what may be said
abbrev pub IsPartOfClose : List ℕ → ℕ → Type 0
IsPartOfClose payload len = (len ≡ 0) ⊎ ((length payload < len) × CanEndClose payload (len - length payload))

-- Less than a header and its payload: a close, a ping or a pong with FIN, as far as that came masked as it must be, of
-- at most 125 bytes, and no doomed close; or nothing
abbrev pub IsCutControl : Role → List ℕ → Type 0
IsCutControl role [] = ⊤
IsCutControl role (first ∷ []) = IsInRange 0x88 0x8a first
IsCutControl role (first ∷ second ∷ more) = IsInRange 0x88 0x8a first × (nat_le 128 second ≡ expects_key role)
    × (second % 128 ≤ 125) × (first ≡ 0x88 → IsPartOfClose (payload_so_far role more) (second % 128))

-- pings, pongs and closes alone, right ones, the last perhaps cut
pub record AreControls (role : Role) (bytes : List ℕ) : Type 0 where
  pub frames : List WireFrame
  pub rest : List ℕ
  pub split : SplitsIntoAnyForm bytes frames rest
  pub right : AllByRecursion (IsRightControl role) frames
  pub cut : IsCutControl role rest

-- so it is behind the last event of these bytes
pub record HasControlsBehind (role : Role) (bytes : List ℕ) : Type 0 where
  pub events : List Event
  pub are_events : HasEvents role most_limits bytes events
  pub behind : List ℕ
  pub stand_behind : StandBehind role bytes events behind
  pub controls : AreControls role behind

-- ---- pongs behind a close

-- the evidence, with these pongs behind all that was got
abbrev pub with_pongs : Evidence → List (InTurn Reply) → Evidence
with_pongs x pongs = record {
  due = x.due;
  got = record { replies = x.got.replies ++ pongs; ending = x.got.ending; has_rest = x.got.has_rest };
  turns = x.turns;
  ended = x.ended;
  answers_doom = x.answers_doom;
}

abbrev pub IsRightPong : Role → WireFrame → Type 0
IsRightPong role x = (x.header.opcode ≡ 10) × IsRightControl role x

-- what a frame, whose last byte is the n-th of all turns, counted from 1, is as an answer: a right pong is one, in the
-- turn that holds this byte
abbrev pub IsPongIn : Role → List (List ℕ) → ℕ → WireFrame → List (InTurn Reply) → Type 0
IsPongIn role turns n x pongs = (IsRightPong role x
    × ((turn : ℕ) × HoldsByte turns turn n × (pongs ≡ record { turn = turn; what = Pong x.payload } ∷ [])))
    ⊎ ((IsRightPong role x → ⊥) × (pongs ≡ []))

-- the right pongs among these frames, in their order; so many bytes are before the first frame
abbrev pub ArePongsAmong : Role → List (List ℕ) → ℕ → List WireFrame → List (InTurn Reply) → Type 0
ArePongsAmong role turns before [] pongs = pongs ≡ []
ArePongsAmong role turns before (x ∷ later) pongs = (one others : List (InTurn Reply)) × (pongs ≡ one ++ others)
    × IsPongIn role turns (before + length (wire_bytes x)) x one
    × ArePongsAmong role turns (before + length (wire_bytes x)) later others

-- so they are behind the last event of what came turn by turn
pub record ArePongsBehind (role : Role) (turns : List (List ℕ)) (pongs : List (InTurn Reply)) : Type 0 where
  pub events : List Event
  pub are_events : HasEvents role most_limits (concat turns) events
  pub behind : List ℕ
  pub stand_behind : StandBehind role (concat turns) events behind
  pub frames : List WireFrame
  pub rest : List ℕ
  pub split : SplitsIntoAnyForm behind frames rest
  pub among : ArePongsAmong role turns (length (concat turns) - length behind) frames pongs

-- The same evidence, and behind a close that was got the right pongs count as got: section 5.5.1 forbids data frames
-- behind a close and no other. Where none was got it is the same.
pub record HasPongsCounted (tested : Role) (transcript : Transcript) (x counted : Evidence) : Type 0 where
  pub pongs : List (InTurn Reply)
  pub are_pongs : MatchBool (ends_with_close x.got.ending)
      (ArePongsBehind (other_role tested) (got_turns transcript.turns) pongs) (pongs ≡ [])
  pub is_counted : counted ≡ with_pongs x pongs

-- ---- a fault that needn't have been seen

-- a continuation with FIN: the last fragment of the message under way (section 5.4)
abbrev pub is_last_fragment : WireFrame → Bool
is_last_fragment x = x.header.fin && (x.header.opcode == 0)

-- a text or a binary frame, with which a message begins
abbrev pub begins_message : WireFrame → Bool
begins_message x = (x.header.opcode == 1) || (x.header.opcode == 2)

abbrev pub is_close_frame : WireFrame → Bool
is_close_frame x = x.header.opcode == 8

-- among these frames, which are behind a fragment, is the last one of its message, and before that no other message
-- begins
abbrev pub end_message : List WireFrame → Bool
end_message [] = false
end_message (x ∷ later) =
    if is_last_fragment x then true else (if begins_message x then false else end_message later)

-- The whole frames from the one at fault on don't show the fault: there are none; or, since a text may be looked at
-- once it is whole (section 8.1), and an end may let another message begin before that, the first of them doesn't end
-- its message, nor do those behind it before another text or binary frame, and none of those is a close frame.
abbrev pub HideFault : Reason → List WireFrame → Type 0
HideFault reason [] = ⊤
HideFault reason (x ∷ later) = (reason ≡ NotText) × (x.header.fin ≡ false) × (end_message later ≡ false)
    × (list_any is_close_frame later ≡ false)

-- The bytes hold a fault, and so that the end which takes them needn't have seen it: the frame at fault didn't come
-- whole, or of a text the last fragment didn't before another message began; and no close frame is behind it.
pub record IsLate (role : Role) (bytes : List ℕ) : Type 0 where
  pub place : ℕ
  pub reason : Reason
  pub is_first : IsFirstFault role most_limits bytes place reason
  pub frames : List WireFrame
  pub rest : List ℕ
  pub split : SplitsIntoAnyForm (drop (length (stream_bytes is_first.fault.before)) bytes) frames rest
  pub hidden : HideFault reason frames

-- ---- all of these

-- what is seen so of a connection, of what was sent as the tested end takes it, and of what was got as the tester does
pub record AreMarksOf (tested : Role) (transcript : Transcript) (marks : Marks) : Type 0 where
  pub sends_data : (marks.sends_data ≡ true) ↔ HoldData tested (concat (sent_turns transcript.turns))
  pub is_late : (marks.is_late ≡ true) ↔ IsLate tested (concat (sent_turns transcript.turns))
  pub is_open : (marks.is_open ≡ true) ↔ HasOpenMessage (other_role tested) (concat (got_turns transcript.turns))
  pub ends_in_data : (marks.ends_in_data ≡ true)
      ↔ EndsInDataFrame (other_role tested) (concat (got_turns transcript.turns))
  pub has_controls : (marks.has_controls ≡ true)
      ↔ HasControlsBehind (other_role tested) (concat (got_turns transcript.turns))
