-- One connection of a server: the opening handshake (RFC 6455 section 4.2), and then an echo over what comes after the
-- head.
use Rattle.std.specs.Prelude.{◌≡◌, ◌≢◌, ℕ, ◌≤◌, ◌⊎◌, true, false, List, [], ◌∷◌, ◌++◌, length, drop, codes, Option}
use Rattle.ws_wire.specs.declared.role.Role.TheVariants.{Server}
use Rattle.ws_frame.specs.Devices.{Device, HasBegun, HasRead, HasWritten, IsUntouched}
use Rattle.ws_session.specs.Limits.{LimitsValue}
use Rattle.ws_session.specs.Words.{status_words}
use Rattle.ws_session.specs.declared.status.Status.{Status}
use Rattle.ws_upgrade.specs.Reading.{max_head}
use Rattle.ws_upgrade.specs.Texts.{refusal_bytes}
use Rattle.ws_upgrade.specs.Words.{head_fault_name}
use Rattle.ws_upgrade.specs.declared.faults.HeadFault.{HeadFault}
use Rattle.ws_echo.specs.Echoes.{DriveCall}
use Rattle.ws_peer.specs.Driving.{ReadsInTurn, IsDrivenTo, IsFairDriveEnd}
use Rattle.ws_peer.specs.declared.driving.DriveEnd.{DriveEnd}
use Rattle.ws_peer.specs.declared.driving.DriveEnd.TheVariants as end
use Rattle.ws_connection.specs.ReadingHeads.{ReadsHead}
use Rattle.ws_handshake.specs.Admissions.{response_of}
use Rattle.ws_handshake.specs.ReadingHeads.{ReadsNoFurther}
use Rattle.ws_handshake.specs.Requests.{DecidesRequest, NeedsRequest}
use Rattle.ws_connection.specs.declared.reading_head.HeadEnd.TheVariants.{Cut, ReadFault}
use Rattle.ws_handshake.specs.declared.request_head.RequestDecision.{RequestDecision}
use Rattle.ws_handshake.specs.declared.request_head.RequestDecision.TheVariants.{Accepted, Refused as RefusedHead}
use Rattle.ws_connection.specs.declared.serving.Served.{Served}
use Rattle.ws_connection.specs.declared.serving.Served.TheVariants.{Ended, Refused, Stopped}

-- the echo of a connection: a server's under these limits, which masks nothing, is fed first what came behind the head,
-- and may read so many bytes more
abbrev pub connection : LimitsValue → ℕ → List ℕ → DriveCall
connection limits budget first =
    record { role = Server; limits = limits; key = 0 ∷ 0 ∷ 0 ∷ 0 ∷ []; first = first; budget = budget }

-- these bytes were read for the head by an endpoint that knows these subprotocols, and decide so: at most 8192, and at
-- most 1024 behind bytes that need more
pub record ReadsRequest (known : List (List ℕ)) (head : List ℕ) (decision : RequestDecision) : Type 0 where
  pub decides : DecidesRequest known head decision
  pub bound : length head ≤ max_head
  pub no_further : ReadsNoFurther (NeedsRequest known) head

-- a head was read and accepted; the response was written, which names what was chosen, and the echo driven over what
-- came after the head
pub record ServesAccepted (limits : LimitsValue) (budget : ℕ) (known : List (List ℕ)) (end : DriveEnd)
    (input output : Device) : Type 0 where
  pub head : List ℕ
  pub accept : List ℕ
  pub protocol : Option ℕ
  pub used : ℕ
  pub is_head : ReadsRequest known head (Accepted accept protocol used)
  pub read : List ℕ
  pub has_read : HasRead (head ++ read) input
  pub within : length read ≤ budget
  pub written : List ℕ
  pub has_written : HasWritten (response_of known accept protocol ++ written) output
  pub in_turn : ReadsInTurn (connection limits budget (drop used head)) read written
  pub driven : IsDrivenTo (connection limits budget (drop used head)) end input.new read written
  pub fair : IsFairDriveEnd end input output

-- a head was read and refused, and the refusal was written
pub record ServesRefused (known : List (List ℕ)) (fault : HeadFault) (input output : Device) : Type 0 where
  pub head : List ℕ
  pub is_head : ReadsRequest known head (RefusedHead fault)
  pub has_read : HasRead head input
  pub has_written : HasWritten (refusal_bytes fault) output
  pub fair : (input.failed ≡ false) × (output.failed ≡ false)

-- the reader was at its end inside a head, or a read failed, and nothing was written
abbrev pub StopsInHead : List (List ℕ) → Device → Device → Type 0
StopsInHead known input output = (head : List ℕ) × IsUntouched output
    × (ReadsHead (NeedsRequest known) (DecidesRequest known) Cut head input
    ⊎ ReadsHead (NeedsRequest known) (DecidesRequest known) ReadFault head input)

-- a head was read and decided, and of the answer to it a beginning was written: a write failed, or, for a response,
-- memory ran out and nothing was written
abbrev pub BeginsAnswer : List (List ℕ) → RequestDecision → Device → Type 0
BeginsAnswer known (Accepted accept protocol used) output =
    ((output.failed ≡ true) × HasBegun (response_of known accept protocol) output) ⊎ IsUntouched output
BeginsAnswer known (RefusedHead fault) output = (output.failed ≡ true) × HasBegun (refusal_bytes fault) output

abbrev pub StopsAnswering : List (List ℕ) → Device → Device → Type 0
StopsAnswering known input output = (head : List ℕ) × (decision : RequestDecision) × ReadsRequest known head decision
    × HasRead head input × (input.failed ≡ false) × BeginsAnswer known decision output

-- the run of the echo was stopped: by a read, a write, the budget or memory
abbrev pub IsStop : DriveEnd → Type 0
IsStop ended = (status : Status) → ended ≢ end.Done status

-- a connection that was served by an endpoint that knows these subprotocols, by how it ended
abbrev pub Serves : LimitsValue → ℕ → List (List ℕ) → Served → Device → Device → Type 0
Serves limits budget known (Ended status) input output =
    ServesAccepted limits budget known (end.Done status) input output
Serves limits budget known (Refused fault) input output = ServesRefused known fault input output
Serves limits budget known Stopped input output = StopsInHead known input output ⊎ (StopsAnswering known input output
    ⊎ ((ended : DriveEnd) × IsStop ended × ServesAccepted limits budget known ended input output))

-- ---- inside the crate: what answers a head that was read, for the contracts of private functions

-- this response was written, and the echo driven
pub record DrivesAfter (limits : LimitsValue) (budget : ℕ) (response first : List ℕ) (end : DriveEnd)
    (input output : Device) : Type 0 where
  pub read : List ℕ
  pub has_read : HasRead read input
  pub within : length read ≤ budget
  pub written : List ℕ
  pub has_written : HasWritten (response ++ written) output
  pub in_turn : ReadsInTurn (connection limits budget first) read written
  pub driven : IsDrivenTo (connection limits budget first) end input.new read written
  pub fair : IsFairDriveEnd end input output

abbrev pub AnswersAccepted : LimitsValue → ℕ → List ℕ → List ℕ → Served → Device → Device → Type 0
AnswersAccepted limits budget response first (Ended status) input output =
    DrivesAfter limits budget response first (end.Done status) input output
AnswersAccepted limits budget response first (Refused fault) input output = ⊥
AnswersAccepted limits budget response first Stopped input output =
    (IsUntouched input × (input.failed ≡ false)
    × (((output.failed ≡ true) × HasBegun response output) ⊎ IsUntouched output))
    ⊎ ((ended : DriveEnd) × IsStop ended × DrivesAfter limits budget response first ended input output)

-- how a connection ended whose echo was driven to this end
abbrev pub served_by : DriveEnd → Served
served_by (end.Done status) = Ended status
served_by end.ReadFault = Stopped
served_by end.WriteFault = Stopped
served_by end.Budget = Stopped
served_by end.NoMemory = Stopped

abbrev pub AnswersRefused : HeadFault → Served → Device → Type 0
AnswersRefused fault (Ended status) output = ⊥
AnswersRefused fault (Refused other) output =
    (other ≡ fault) × (output.failed ≡ false) × HasWritten (refusal_bytes fault) output
AnswersRefused fault Stopped output = (output.failed ≡ true) × HasBegun (refusal_bytes fault) output

abbrev pub ServesDecision
    : LimitsValue → ℕ → List (List ℕ) → RequestDecision → List ℕ → Served → Device → Device → Type 0
ServesDecision limits budget known (Accepted accept protocol used) head served input output =
    AnswersAccepted limits budget (response_of known accept protocol) (drop used head) served input output
ServesDecision limits budget known (RefusedHead fault) head served input output =
    AnswersRefused fault served output × IsUntouched input × (input.failed ≡ false)

-- how a connection ended, in words
abbrev pub served_words : Served → List ℕ
served_words (Ended status) = status_words status
served_words (Refused fault) = codes "refused " ++ head_fault_name fault
served_words Stopped = codes "stopped"
