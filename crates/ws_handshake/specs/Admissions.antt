-- The opening handshake of a server (RFC 6455 section 4.2): the response to a request, and the machine that reads the
-- one and writes the other.
use Rattle.std.specs.Prelude.{◌≡◌, ℕ, suc, ◌+◌, ◌-◌, ◌<◌, ◌≤◌, ◌⊎◌, ⊤, false, true, List, [], ◌∷◌, ◌++◌, length, drop}
use Rattle.std.specs.Prelude.{Option, None, Some}
use Rattle.ws_upgrade.specs.Protocols.{name_chosen}
use Rattle.ws_upgrade.specs.Reading.{max_head}
use Rattle.ws_upgrade.specs.Texts.{refusal_bytes, response_text}
use Rattle.ws_upgrade.specs.declared.requests.Upgrade.{Upgrade}
use Rattle.ws_upgrade.specs.declared.requests.RequestRead.TheVariants as read
use Rattle.ws_machines.specs.Told.{Told}
use Rattle.ws_machines.specs.Told.Told.{Ended, ReadFailed, NothingCame, WriteFailed, DeadlinePassed}
use Rattle.ws_machines.specs.Machines.{Wants}
use Rattle.ws_tester.specs.RunStates.{is_nothing}
use Rattle.ws_handshake.specs.ReadingHeads.{AreHeadPieces, AreTaken, EndsInPiece, IsUndecided, IsWholeHead, head_room}
use Rattle.ws_handshake.specs.Requests.{DecidesRequest, IsAnswer, NeedsRequest}
use Rattle.ws_handshake.specs.declared.request_head.RequestDecision.TheVariants.{Refused as RefusedHead}
use Rattle.ws_handshake.specs.declared.admission.AcceptedRequest.{AcceptedRequest}
use Rattle.ws_handshake.specs.declared.admission.Admission.{Admission}
use Rattle.ws_handshake.specs.declared.admission.Admission.TheVariants.{Accepted, Refused, Lost}

-- ---- the response

-- the response with this accept value that names what was chosen among these
abbrev pub response_of : List (List ℕ) → List ℕ → Option ℕ → List ℕ
response_of known accept protocol = response_text accept (name_chosen known protocol)

-- the response to an upgrade, which names what was chosen
abbrev pub response_to : List (List ℕ) → Upgrade → List ℕ
response_to known upgrade = response_of known upgrade.accept upgrade.protocol

-- the bytes begin with a head that is accepted
abbrev pub HoldsUpgrade : List (List ℕ) → List ℕ → Type 0
HoldsUpgrade known head = (upgrade : Upgrade) × (used : ℕ) × IsAnswer known head (read.Got upgrade used)

-- this upgrade is asked for, and this is the response to it, its path, and what came behind its head
pub record IsTakenFrom (known : List (List ℕ)) (head response : List ℕ) (request : AcceptedRequest) : Type 0 where
  pub upgrade : Upgrade
  pub used : ℕ
  pub asks : IsAnswer known head (read.Got upgrade used)
  pub within : used ≤ length head
  pub responds : response ≡ response_to known upgrade
  pub path : request.path.items ≡ upgrade.path.now
  pub behind : request.behind.items ≡ drop used head

-- ---- the state

-- The subprotocols that are known; what was read for the head of the request; what is still to be written of the
-- answer; and what comes of the request, once its head is decided or there is none.
pub record AdmitValue : Type 0 where
  pub known : List (List ℕ)
  pub read : List ℕ
  pub rest : List ℕ
  pub outcome : Option Admission

-- The head is read, as long as it decides nothing, and then the answer to it is written, to its last byte.
abbrev pub admit_wants : Option Admission → List ℕ → List ℕ → Wants
admit_wants None rest read = record {
  write = [];
  report = [];
  room = head_room read;
  end = false;
  waits_anew = true;
  done = false;
}
admit_wants (Some admission) rest read = record {
  write = rest;
  report = [];
  room = 0;
  end = false;
  waits_anew = true;
  done = is_nothing rest;
}

abbrev pub wanted_to_admit : AdmitValue → Wants
wanted_to_admit x = admit_wants x.outcome x.rest x.read

-- an answer has no more bytes than a machine can count
abbrev pub most_bytes : ℕ
most_bytes = 18446744073709551615

-- so much can still happen: each byte of the head and of the answer lowers it
abbrev pub admit_left_at : Option Admission → AdmitValue → ℕ
admit_left_at None x = suc ((max_head - length x.read) + most_bytes)
admit_left_at (Some admission) x = length x.rest

abbrev pub admit_left : AdmitValue → ℕ
admit_left x = admit_left_at x.outcome x

-- ---- what was told

-- nothing was told yet
pub record IsAwaiting (start : AdmitValue) : Type 0 where
  pub outcome : start.outcome ≡ None
  pub read : start.read ≡ []

-- this is the answer to a head, and that comes of it where all of the answer is taken
abbrev pub IsAnswerTo : List (List ℕ) → List ℕ → List ℕ → Admission → Type 0
IsAnswerTo known answer head (Accepted request) = IsTakenFrom known head answer request
IsAnswerTo known answer head (Refused fault) =
    DecidesRequest known head (RefusedHead fault) × (answer ≡ refusal_bytes fault)
IsAnswerTo known answer head Lost = ⊥

-- no head is whole yet: only that pieces of it came was told
pub record StillAwaits (start : AdmitValue) (read : List ℕ) (told : List Told) : Type 0 where
  pub awaiting : IsAwaiting start
  pub got : AreHeadPieces told read
  pub is_open : IsUndecided (NeedsRequest start.known) read

-- A head came, no further than it takes, and then of the answer to it some was taken, of which this is left; and that
-- comes of it where all is.
pub record WritesAnswer (start : AdmitValue) (admission : Admission) (rest : List ℕ) (told : List Told) : Type 0 where
  pub reads : List Told
  pub writes : List Told
  pub parts : told ≡ reads ++ writes
  pub awaiting : IsAwaiting start
  pub head : List ℕ
  pub got : AreHeadPieces reads head
  pub ends : EndsInPiece reads
  pub answer : List ℕ
  pub is_head : IsWholeHead (NeedsRequest start.known) (IsAnswerTo start.known answer) head admission
  pub taken : List ℕ
  pub are_taken : AreTaken writes taken
  pub put : answer ≡ taken ++ rest

-- what ends a connection while the answer is written
abbrev pub BreaksAnswer : Told → Type 0
BreaksAnswer WriteFailed = ⊤
BreaksAnswer (DeadlinePassed waited) = ⊤
BreaksAnswer _ = ⊥

-- the last that was told has ended it there, before the last byte
pub record BreaksOff (start : AdmitValue) (admission : Admission) (told : List Told) : Type 0 where
  pub before : List Told
  pub last : Told
  pub parts : told ≡ before ++ last ∷ []
  pub rest : List ℕ
  pub writes : WritesAnswer start admission rest before
  pub some : 0 < length rest
  pub breaks : BreaksAnswer last

-- what ends a connection before the head is whole
abbrev pub EndsInHead : Told → Type 0
EndsInHead Ended = ⊤
EndsInHead ReadFailed = ⊤
EndsInHead NothingCame = ⊤
EndsInHead (DeadlinePassed waited) = ⊤
EndsInHead _ = ⊥

-- the last that was told has ended it there
pub record LosesHeadOf (start : AdmitValue) (told : List Told) : Type 0 where
  pub before : List Told
  pub last : Told
  pub parts : told ≡ before ++ last ∷ []
  pub read : List ℕ
  pub awaits : StillAwaits start read before
  pub ends : EndsInHead last

-- ---- what comes of it

-- it was lost inside the head, or a response was broken off
abbrev pub LosesAdmission : AdmitValue → List Told → Type 0
LosesAdmission start told = LosesHeadOf start told
    ⊎ ((request : AcceptedRequest) × BreaksOff start (Accepted request) told)

-- What comes of a request, by all that was told: it was accepted, and all of the response was taken; it was refused,
-- and all of the refusal was taken, or that was broken off; or it was lost.
abbrev pub AdmitGives : AdmitValue → List Told → Admission → Type 0
AdmitGives start told (Accepted request) = WritesAnswer start (Accepted request) [] told
AdmitGives start told (Refused fault) =
    WritesAnswer start (Refused fault) [] told ⊎ BreaksOff start (Refused fault) told
AdmitGives start told Lost = LosesAdmission start told

-- from the first state to the second one the machine was told just this
abbrev pub WasAdmittedAt : Option Admission → AdmitValue → AdmitValue → List Told → Type 0
WasAdmittedAt None start now told =
    (now.known ≡ start.known) × (now.rest ≡ []) × StillAwaits start now.read told
WasAdmittedAt (Some (Accepted request)) start now told = WritesAnswer start (Accepted request) now.rest told
WasAdmittedAt (Some (Refused fault)) start now told = WritesAnswer start (Refused fault) now.rest told
    ⊎ ((now.rest ≡ []) × BreaksOff start (Refused fault) told)
WasAdmittedAt (Some Lost) start now told = (now.rest ≡ []) × LosesAdmission start told

abbrev pub WasAdmitted : AdmitValue → AdmitValue → List Told → Type 0
WasAdmitted start now told = WasAdmittedAt now.outcome start now told
