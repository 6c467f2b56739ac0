-- Inside the crate: what one event changes of a machine that reads a request and answers it. A reader may skip this
-- file.
use Rattle.std.specs.Prelude.{◌≡◌, ℕ, ◌≤◌, ◌⊎◌, ⊤, List, [], ◌++◌, drop, length, Option, None, Some}
use Rattle.ws_machines.specs.declared.stream.StreamEvent.{StreamEvent}
use Rattle.ws_machines.specs.declared.stream.StreamEvent.TheVariants as event
use Rattle.ws_handshake.specs.ReadingHeads.{IsUndecided}
use Rattle.ws_handshake.specs.Requests.{NeedsRequest}
use Rattle.ws_handshake.specs.Admissions.{AdmitValue, IsAnswerTo, most_bytes}
use Rattle.ws_handshake.specs.declared.admission.Admission.{Admission}
use Rattle.ws_handshake.specs.declared.admission.Admission.TheVariants.{Accepted, Refused, Lost}

-- the head isn't decided, and these bytes of it were read
pub record StaysAwaiting (old new : AdmitValue) (read : List ℕ) : Type 0 where
  pub known : new.known ≡ old.known
  pub got : new.read ≡ read
  pub rest : new.rest ≡ old.rest
  pub outcome : new.outcome ≡ None
  pub undecided : IsUndecided (NeedsRequest old.known) read

-- these bytes of it are decided, and nothing of the answer was taken yet
abbrev pub OpensAnswer : AdmitValue → AdmitValue → List ℕ → Type 0
OpensAnswer old new read = (admission : Admission) × (new.outcome ≡ Some admission)
    × (length new.rest ≤ most_bytes) × IsAnswerTo old.known new.rest read admission

abbrev pub ReadsRequestTo : List ℕ → AdmitValue → AdmitValue → Type 0
ReadsRequestTo read old new = StaysAwaiting old new read ⊎ OpensAnswer old new read

-- there will be no head
pub record LosesRequestNow (old new : AdmitValue) : Type 0 where
  pub rest : new.rest ≡ old.rest
  pub outcome : new.outcome ≡ Some Lost

-- what happened before the head was decided leaves it so
abbrev pub ReadsRequestOn : AdmitValue → StreamEvent → AdmitValue → Type 0
ReadsRequestOn old (event.Came piece) new = ReadsRequestTo (old.read ++ piece.now) old new
ReadsRequestOn old event.Ended new = LosesRequestNow old new
ReadsRequestOn old event.ReadFailed new = LosesRequestNow old new
ReadsRequestOn old event.NothingCame new = LosesRequestNow old new
ReadsRequestOn old (event.DeadlinePassed waited) new = LosesRequestNow old new
ReadsRequestOn old _ new = ⊤

-- what comes of a request whose answer is broken off
abbrev pub broken_off : Option Admission → Option Admission
broken_off None = None
broken_off (Some (Accepted request)) = Some Lost
broken_off (Some (Refused fault)) = Some (Refused fault)
broken_off (Some Lost) = Some Lost

-- nothing more of the answer is written
pub record BreaksAdmission (old new : AdmitValue) : Type 0 where
  pub rest : new.rest ≡ []
  pub outcome : new.outcome ≡ broken_off old.outcome

-- so much more of it was taken
pub record TakesAnswer (old new : AdmitValue) (count : ℕ) : Type 0 where
  pub rest : new.rest ≡ drop count old.rest
  pub outcome : new.outcome ≡ old.outcome

-- what happened while the answer is written leaves it so
abbrev pub AnswersOn : AdmitValue → StreamEvent → AdmitValue → Type 0
AnswersOn old (event.Taken count) new = TakesAnswer old new count
AnswersOn old event.WriteFailed new = BreaksAdmission old new
AnswersOn old (event.DeadlinePassed waited) new = BreaksAdmission old new
AnswersOn old _ new = ⊤
