-- An echo as a machine (RFC 6455 sections 5.5, 5.6 and 7.1): its state, what it wants, what it was told, and what comes
-- of it.
use Rattle.std.specs.Prelude.{◌≡◌, ℕ, ◌+◌, ◌*◌, ◌<◌, ◌||◌, ◌&&◌, not, min, nat_eq, nat_lt, ⊤, Bool, true, false}
use Rattle.std.specs.Prelude.{if◌then◌else◌, List, [], ◌∷◌, ◌++◌, length, Option, None, Some, is_some}
use Rattle.std.specs.List.{All}
use Rattle.ws_machines.specs.Told.{Told, all_came, all_taken}
use Rattle.ws_machines.specs.Told.Told.{Came, Taken, Ended, ReadFailed, NothingCame, WriteFailed, DeadlinePassed}
use Rattle.ws_machines.specs.Machines.{Wants}
use Rattle.ws_session.specs.declared.status.Status.{Status}
use Rattle.ws_session.specs.Exchange.{SessionValue, is_over}
use Rattle.ws_echo.specs.Echoes.{BeginsAnswers, DriveCall, Echoes, HasAnsweredAll, IsEchoOf}
use Rattle.ws_echo.specs.declared.echo_machine.EchoPlan.{EchoPlan}
use Rattle.ws_echo.specs.declared.echo_machine.EchoStop.{EchoStop}
use Rattle.ws_echo.specs.declared.echo_machine.EchoStop.TheVariants as stop
use Rattle.ws_echo.specs.declared.echo_machine.EchoEnd.{EchoEnd}
use Rattle.ws_echo.specs.declared.echo_machine.EchoEnd.TheVariants.{Done, Budget, Stopped}

-- ---- the state

-- the echo that a plan asks for, where it takes these bytes first
abbrev pub echo_call : EchoPlan → List ℕ → DriveCall
echo_call plan first = record {
  role = plan.role;
  limits = plan.limits;
  key = plan.key;
  first = first;
  budget = plan.budget;
}

-- The session; the key that masks its frames; its replies that are still to be written; how many bytes may still come;
-- and what has stopped it, if it was stopped.
pub record EchoValue : Type 0 where
  pub session : SessionValue
  pub key : List ℕ
  pub rest : List ℕ
  pub left : ℕ
  pub stop : Option EchoStop

-- ---- what is wanted

-- more may come, as long as the session goes on, the budget isn't used up and nothing has stopped it
abbrev pub is_reading : EchoValue → Bool
is_reading x = not (is_some x.stop) && (nat_lt 0 x.left && not (is_over x.session.status))

-- as long as fewer bytes of its replies wait, more is read, at most so many bytes at once
abbrev pub most_ahead : ℕ
most_ahead = 65536

abbrev pub echo_room : EchoValue → ℕ
echo_room x = if is_reading x && nat_lt (length x.rest) most_ahead then min x.left most_ahead else 0

-- its replies are to be written, and more is to be read meanwhile; any byte that comes or is taken is waited for
abbrev pub wanted_by_echo : EchoValue → Wants
wanted_by_echo x = record {
  write = x.rest;
  report = [];
  room = echo_room x;
  end = false;
  waits_anew = true;
  done = not (is_reading x) && nat_eq (length x.rest) 0;
}

-- no more bytes wait than a machine can count
abbrev pub most_replies : ℕ
most_replies = 18446744073709551615

-- so much can still happen: a byte that comes lowers it by more than all its replies can add
abbrev pub echo_left : EchoValue → ℕ
echo_left x = x.left * 18446744073709551616 + (length x.rest + (if is_reading x then 1 else 0))

-- ---- what was told

-- bytes came, or were taken
abbrev pub MovesBytes : Told → Type 0
MovesBytes (Came bytes) = ⊤
MovesBytes (Taken bytes) = ⊤
MovesBytes _ = ⊥

abbrev pub TakesBytes : Told → Type 0
TakesBytes (Taken bytes) = ⊤
TakesBytes _ = ⊥

-- only bytes that came and that were taken were told of, then this, and from then on only bytes that were taken
pub record EndsReading (why : Told) (told : List Told) : Type 0 where
  pub before : List Told
  pub after : List Told
  pub parts : told ≡ before ++ why ∷ after
  pub moved : All MovesBytes before
  pub taken : All TakesBytes after

-- this was told last
pub record IsToldLast (last : Told) (told : List Told) : Type 0 where
  pub before : List Told
  pub parts : told ≡ before ++ last ∷ []

-- All that came was taken by the session, behind the first bytes. Of its replies all were taken but those that wait.
pub record AnswersSoFar (call : DriveCall) (now : EchoValue) (ended : Bool) (told : List Told) : Type 0 where
  pub put : List ℕ
  pub echo : IsEchoOf call (call.first ++ all_came told) ended put now.session
  pub written : put ≡ all_taken told ++ now.rest
  pub spent : length (all_came told) + now.left ≡ call.budget
  pub key : now.key ≡ call.key

-- whether its stream has ended: then the session is over, and the budget was not used up
abbrev pub HasEndedSo : DriveCall → EchoValue → Bool → List Told → Type 0
HasEndedSo call now false told = All MovesBytes told
HasEndedSo call now true told =
    EndsReading Ended told × (is_over now.session.status ≡ true) × (length (all_came told) < call.budget)

-- it was stopped in the midst of its session by this, and its replies go on to be written
pub record StopsEchoing (call : DriveCall) (now : EchoValue) (why : Told) (told : List Told) : Type 0 where
  pub answered : AnswersSoFar call now false told
  pub going : is_over now.session.status ≡ false
  pub within : length (all_came told) < call.budget
  pub ends : EndsReading why told

-- it was stopped by what was told last, and nothing more is written
pub record BreaksEchoing (call : DriveCall) (now : EchoValue) (last : Told) (told : List Told) : Type 0 where
  pub rest : now.rest ≡ []
  pub begins : BeginsAnswers call (all_came told) (all_taken told)
  pub ends : IsToldLast last told

-- an echo of this call stands so once it was told this
abbrev pub StandsBehind : Option EchoStop → DriveCall → EchoValue → List Told → Type 0
StandsBehind None call now told = (ended : Bool) × AnswersSoFar call now ended told × HasEndedSo call now ended told
StandsBehind (Some stop.ReadFault) call now told = StopsEchoing call now ReadFailed told
StandsBehind (Some stop.NothingCame) call now told = StopsEchoing call now NothingCame told
StandsBehind (Some stop.WriteFault) call now told = BreaksEchoing call now WriteFailed told
StandsBehind (Some stop.Late) call now told = (waited : Bool) × BreaksEchoing call now (DeadlinePassed waited) told

-- it is an echo of this call to which nothing was told yet
abbrev pub BeginsEcho : DriveCall → EchoValue → Type 0
BeginsEcho call start = StandsBehind start.stop call start []

-- from the first state to the second one the machine was told just this, whatever call the first one is a beginning of
abbrev pub WasEchoing : EchoValue → EchoValue → List Told → Type 0
WasEchoing start now told = (call : DriveCall) → BeginsEcho call start → StandsBehind now.stop call now told

-- ---- what comes of it

-- The session is over, before its stream has ended or not: then that was told, before the budget was used up.
abbrev pub IsOverSo : DriveCall → Bool → Status → List Told → Type 0
IsOverSo call false status told = (is_over status ≡ true) × All MovesBytes told
IsOverSo call true status told = EndsReading Ended told × (length (all_came told) < call.budget)

-- all that is due for what came was taken, and then this stopped it
pub record StopsAnswered (call : DriveCall) (why : Told) (told : List Told) : Type 0 where
  pub answered : HasAnsweredAll call (all_came told) (all_taken told)
  pub within : length (all_came told) < call.budget
  pub ends : EndsReading why told

-- a beginning of what is due for what came was taken, and then this stopped it
pub record StopsInAnswers (call : DriveCall) (last : Told) (told : List Told) : Type 0 where
  pub begins : BeginsAnswers call (all_came told) (all_taken told)
  pub ends : IsToldLast last told

-- What comes of an echo of this call that was told just this. Done, and where the budget is used up, all that is due
-- for what came was taken.
abbrev pub EchoGives : DriveCall → List Told → EchoEnd → Type 0
EchoGives call told (Done status) = (ended : Bool)
    × Echoes call (call.first ++ all_came told) ended (all_taken told) status × IsOverSo call ended status told
EchoGives call told Budget = HasAnsweredAll call (all_came told) (all_taken told)
    × (length (all_came told) ≡ call.budget) × All MovesBytes told
EchoGives call told (Stopped stop.ReadFault) = StopsAnswered call ReadFailed told
EchoGives call told (Stopped stop.NothingCame) = StopsAnswered call NothingCame told
EchoGives call told (Stopped stop.WriteFault) = StopsInAnswers call WriteFailed told
EchoGives call told (Stopped stop.Late) = (waited : Bool) × StopsInAnswers call (DeadlinePassed waited) told

-- and so of one that began so
abbrev pub EchoGivesSo : EchoValue → List Told → EchoEnd → Type 0
EchoGivesSo start told end = (call : DriveCall) → BeginsEcho call start → EchoGives call told end

-- the end of an echo whose session stands so, and that was stopped or not
abbrev pub IsEndOfEcho : Status → Option EchoStop → EchoEnd → Type 0
IsEndOfEcho status (Some why) end = end ≡ Stopped why
IsEndOfEcho status None end = end ≡ (if is_over status then Done status else Budget)
