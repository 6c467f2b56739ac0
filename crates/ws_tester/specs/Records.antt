-- What is recorded of a run, by all that its machine was told.
use Rattle.std.specs.Prelude.{◌≡◌, ℕ, ◌<◌, ◌≤◌, ◌⊎◌, Bool, true, false, List, [], ◌∷◌, ◌++◌, length, take, map}
use Rattle.std.specs.Prelude.{Some}
use Rattle.std.specs.List.{concat}
use Rattle.ws_wire.specs.declared.role.Role.TheVariants.{Client}
use Rattle.ws_scripts.specs.declared.expectation.Expectation.TheVariants.{Echo}
use Rattle.ws_scripts.specs.declared.transcript.Ended.TheVariants.{Tester, Peer, Broken}
use Rattle.ws_scripts.specs.declared.transcript.Turn.{Turn}
use Rattle.ws_scripts.specs.declared.transcript.Transcript.{Transcript}
use Rattle.ws_suite.specs.Evidence.{sent_turns}
use Rattle.ws_suite.specs.Growing.{EndInsideFrame, CannotComeAfter, new_turn}
use Rattle.ws_suite.specs.Waiting.{AreTurnsAnsweredBy, AreTurnsSeenAnswered}
use Rattle.ws_machines.specs.Told.{Told, all_came, all_taken}
use Rattle.ws_machines.specs.Told.Told.{ReadFailed, WriteFailed, Ended, NothingCame, DirectionEnded, DeadlinePassed}
use Rattle.ws_machines.specs.Told.Told.{Taken}
use Rattle.ws_tester.specs.Standings.{HasServerClose, HasStandingBy, StandsAs, stops_run}
use Rattle.ws_tester.specs.Outgoings.{HaveBytes}
use Rattle.ws_tester.specs.Outcomes.{HasSentEnd, got_in_all, sent_in_all}
use Rattle.ws_tester.specs.Following.{BeginsRun, Follows, ScriptValue}
use Rattle.ws_tester.specs.RunStates.{RunState, recorded}
use Rattle.ws_tester.specs.declared.standing.Standing.TheVariants.{Going}

-- ---- what was told

-- it was told
abbrev pub Was : Told → List Told → Type 0
Was event [] = ⊥
Was event (first ∷ told) = (first ≡ event) ⊎ Was event told

-- it was told after these events, and before others
pub record WasAt (event : Told) (told before : List Told) : Type 0 where
  pub after : List Told
  pub parts : told ≡ before ++ event ∷ after

-- it was the last
abbrev pub WasLast : Told → List Told → Type 0
WasLast event told = (before : List Told) × (told ≡ before ++ event ∷ [])

-- nothing is told behind the end of the stream, a failed read or the deadline
abbrev pub is_last_told : Told → Bool
is_last_told Ended = true
is_last_told ReadFailed = true
is_last_told (DeadlinePassed waited) = true
is_last_told _ = false

-- ---- what is recorded

-- the turns that were sent are those of the script, from its first; of the last one perhaps only a beginning was sent
pub record AreSentOf (script sent : List (List ℕ)) : Type 0 where
  pub whole : List (List ℕ)
  pub last : List ℕ
  pub unsent : List ℕ
  pub later : List (List ℕ)
  pub sent_turns : sent ≡ whole ++ last ∷ []
  pub turns : script ≡ whole ++ (last ++ unsent) ∷ later

-- ---- when nothing is waited for any more

-- All turns of the script were sent, and what an echo owes can't come any more. Neither a close nor a fault came, and
-- no frame is under way.
pub record CannotComeAnyMore (run : ScriptValue) (turns : List Turn) : Type 0 where
  pub sent : map concat run.script ≡ sent_turns turns
  pub echo : run.plan.expected ≡ Echo
  pub going : StandsAs run.plan.tested run.plan.expected Going (got_in_all turns)
  pub cannot : CannotComeAfter run.plan.tested turns
  pub whole : ¬ (EndInsideFrame run.plan.tested turns)

-- What was got has neither a close nor a fault, and no write has failed.
pub record IsUnbroken (run : ScriptValue) (told : List Told) (turns : List Turn) : Type 0 where
  pub going : StandsAs run.plan.tested run.plan.expected Going (got_in_all turns)
  pub works : ¬ (Was WriteFailed told)

-- where waits can be in vain, the turn behind these isn't the one that has sent a close or a fault
abbrev pub EndsNoWait : ScriptValue → List Turn → Turn → Type 0
EndsNoWait run past turn = run.plan.timeouts ≡ true → HasSentEnd run.plan.tested (past ++ turn ∷ []) true
    → HasSentEnd run.plan.tested past true

-- The script has a turn after these, all of which were sent, and what is owed has come, so that a run sees it.
pub record IsNextDue (run : ScriptValue) (past : List Turn) (turn : Turn) : Type 0 where
  pub next : List ℕ
  pub later : List (List ℕ)
  pub sent : map concat run.script ≡ sent_turns past ++ turn.sent ∷ next ∷ later
  pub answered : AreTurnsSeenAnswered run.plan.expected run.plan.tested (past ++ turn ∷ [])
  pub unended : EndsNoWait run past turn

-- All turns of the script were sent to a client, and neither a close nor a fault was; what is owed has come, so that a
-- run sees it, and no frame is under way.
pub record IsClientAnswered (run : ScriptValue) (turns : List Turn) : Type 0 where
  pub client : run.plan.tested ≡ Client
  pub sent : map concat run.script ≡ sent_turns turns
  pub unended : HasSentEnd run.plan.tested turns false
  pub answered : AreTurnsSeenAnswered run.plan.expected run.plan.tested turns
  pub whole : ¬ (EndInsideFrame run.plan.tested turns)

-- Nothing is waited for any more in a turn behind these: what was got stops the run, by a fault or from a client by a
-- close; or it is unbroken, and what is owed has come and the next turn is due, or the client of the last one has
-- answered; or what is owed can't come any more.
abbrev pub IsOver : ScriptValue → List Told → List Turn → Turn → Type 0
IsOver run told past turn =
    HasStandingBy stops_run true run.plan.tested run.plan.expected (got_in_all (past ++ turn ∷ []))
    ⊎ (IsUnbroken run told (past ++ turn ∷ []) × (IsNextDue run past turn
    ⊎ (IsClientAnswered run (past ++ turn ∷ []) ⊎ CannotComeAnyMore run (past ++ turn ∷ []))))

-- ---- how it ends

-- A turn that another one follows was waited for: what is waited for had come, or it was told that nothing came, when
-- just these turns had been sent and got. Where waits can be in vain, the turn that has sent a close or a fault is
-- waited out: it is followed only once nothing came.
abbrev pub IsWaitedFor : ScriptValue → List Turn → List Told → Type 0
IsWaitedFor run turns told = (AreTurnsAnsweredBy run.plan.expected run.plan.tested turns
    × ((past : List Turn) × (turn : Turn) × (turns ≡ past ++ turn ∷ []) × EndsNoWait run past turn))
    ⊎ ((before : List Told) × WasAt NothingCame told before × (sent_in_all turns ≡ all_taken before)
    × (got_in_all turns ≡ run.first ++ all_came before))

-- These turns were sent whole, and are the first of the script; unless a write has failed, or a server's close was got.
abbrev pub AreSentWhole : ScriptValue → List Told → List Turn → Type 0
AreSentWhole run told turns = ((later : List (List ℕ)) × (map concat run.script ≡ sent_turns turns ++ later))
    ⊎ (Was WriteFailed told ⊎ HasServerClose run.plan.tested run.plan.expected (got_in_all turns))

-- the budget was used up, all of the last turn was sent, and something was still waited for in it
pub record IsBudgetUsed (run : ScriptValue) (told : List Told) (turns : List Turn) : Type 0 where
  pub used : run.budget ≡ length (all_came told)
  pub sent : AreSentWhole run told turns
  pub past : List Turn
  pub turn : Turn
  pub last : turns ≡ past ++ turn ∷ []
  pub waits : ¬ (IsOver run told past turn)

-- A run is broken off by a failed read; by the end of the stream or a silence, where a write has failed; by a deadline
-- before it was waited long enough, where waits can be in vain; or by the budget.
abbrev pub IsBrokenBy : ScriptValue → List Told → List Turn → Type 0
IsBrokenBy run told turns = WasLast ReadFailed told
    ⊎ ((Was WriteFailed told × (WasLast Ended told ⊎ WasLast NothingCame told))
    ⊎ (((run.plan.timeouts ≡ true) × WasLast (DeadlinePassed false) told) ⊎ IsBudgetUsed run told turns))

-- all turns of the script were sent to a client, neither a close nor a fault was, what is owed has come, and no frame
-- is under way
pub record HasAllOwed (run : ScriptValue) (turns : List Turn) : Type 0 where
  pub client : run.plan.tested ≡ Client
  pub sent : map concat run.script ≡ sent_turns turns
  pub unended : HasSentEnd run.plan.tested turns false
  pub answered : AreTurnsAnsweredBy run.plan.expected run.plan.tested turns
  pub whole : ¬ (EndInsideFrame run.plan.tested turns)

-- it was told last that nothing came, and all turns of the script were sent, or a server's close was got
pub record IsEndedBySilence (run : ScriptValue) (told : List Told) (turns : List Turn) : Type 0 where
  pub last : WasLast NothingCame told
  pub sent : (map concat run.script ≡ sent_turns turns)
      ⊎ HasServerClose run.plan.tested run.plan.expected (got_in_all turns)

-- the deadline passed last; and it was waited long enough, or no wait can be in vain
abbrev pub IsEndedByDeadline : ScriptValue → List Told → Type 0
IsEndedByDeadline run told = (waited : Bool) × ((waited ≡ true) ⊎ (run.plan.timeouts ≡ false))
    × WasLast (DeadlinePassed waited) told

-- The tester ends a run that has turns where what was got stops it, by a fault or from a client by a close; where
-- nothing came in time for the last turn, or behind a server's close; by the deadline; and in the last turn, where a
-- client has sent all that is owed, or what is owed can't come any more.
abbrev pub IsEndedByTester : ScriptValue → List Told → List Turn → Type 0
IsEndedByTester run told turns = HasStandingBy stops_run true run.plan.tested run.plan.expected (got_in_all turns)
    ⊎ (IsEndedBySilence run told turns ⊎ (IsEndedByDeadline run told
    ⊎ (HasAllOwed run turns ⊎ CannotComeAnyMore run turns)))

-- the own direction was ended; or before that could be, the deadline passed
abbrev pub IsHalfClosed : List Told → Type 0
IsHalfClosed told = Was DirectionEnded told ⊎ ((waited : Bool) × WasLast (DeadlinePassed waited) told)

-- by then neither a close nor a fault was got, with the head or behind it
abbrev pub IsSentInTime : ScriptValue → List Told → Type 0
IsSentInTime run before = StandsAs run.plan.tested run.plan.expected Going (run.first ++ all_came before)

-- what a turn has sent and got is a beginning of what it has in the end
pub record HasBegunTurn (turn whole : Turn) : Type 0 where
  pub unsent : List ℕ
  pub sent : whole.sent ≡ turn.sent ++ unsent
  pub ungot : List ℕ
  pub got : whole.got ≡ turn.got ++ ungot

-- the first of these turns, and a beginning of the next one
abbrev pub AreTurnsSoFar : List Turn → Turn → List Turn → Type 0
AreTurnsSoFar past turn [] = ⊥
AreTurnsSoFar [] turn (whole ∷ later) = HasBegunTurn turn whole
AreTurnsSoFar (first ∷ past) turn (whole ∷ later) = (first ≡ whole) × AreTurnsSoFar past turn later

-- When just this had been told something was still waited for in these turns: of the first of them, and of a beginning
-- of the next one, just this had been sent and got, and that wasn't over.
pub record WasWaiting (run : ScriptValue) (turns : List Turn) (told : List Told) : Type 0 where
  pub past : List Turn
  pub turn : Turn
  pub so_far : AreTurnsSoFar past turn turns
  pub sent : sent_in_all (past ++ turn ∷ []) ≡ all_taken told
  pub got : got_in_all (past ++ turn ∷ []) ≡ run.first ++ all_came told
  pub waits : ¬ (IsOver run told past turn)

-- When just this had been told before nothing came: of the first of these turns, and of a beginning of the next one,
-- just this had been sent and got. If that was all sent, it isn't waited for any more: another turn begins behind it,
-- or nothing more is told.
pub record IsWaitOver (run : ScriptValue) (turns : List Turn) (told before : List Told) : Type 0 where
  pub past : List Turn
  pub turn : Turn
  pub so_far : AreTurnsSoFar past turn turns
  pub sent : sent_in_all (past ++ turn ∷ []) ≡ all_taken before
  pub got : got_in_all (past ++ turn ∷ []) ≡ run.first ++ all_came before
  pub over : (later : List (List ℕ)) → map concat run.script ≡ sent_turns (past ++ turn ∷ []) ++ later
      → AreTurnsSoFar (past ++ turn ∷ []) new_turn turns ⊎ (told ≡ before ++ NothingCame ∷ [])

-- A run that was told just this is recorded so: just what was taken was sent, and just what came was got, behind what
-- came with the head, no more than the budget. Each turn but the last is sent whole, and was waited for. The run is
-- broken off only as `IsBrokenBy` says, was ended by the tested end only where its stream has ended, and by the tester
-- only where the script has no turns or as `IsEndedByTester` says; and what ends a run is the last that it is told. The
-- own direction was ended only where a server's close was got, and there it was, as `IsHalfClosed` says, where the
-- script has turns. Each byte was sent in time, and a turn follows others only where these have got neither a close nor
-- a fault. Whatever was told, something was still waited for by then: once nothing is, or nothing came in time for a
-- turn that is all sent, the next turn begins, or the run ends.
pub record IsRecordOf (run : ScriptValue) (told : List Told) (transcript : Transcript) : Type 0 where
  pub sent : sent_in_all transcript.turns ≡ all_taken told
  pub got : got_in_all transcript.turns ≡ run.first ++ all_came told
  pub budget : length (all_came told) ≤ run.budget
  pub turns : (run.script ≡ []) ⊎ AreSentOf (map concat run.script) (sent_turns transcript.turns)
  pub waited_for : (n : ℕ) → 0 < n → n < length transcript.turns → IsWaitedFor run (take n transcript.turns) told
  pub broken : transcript.ended ≡ Broken → IsBrokenBy run told transcript.turns
  pub tester : transcript.ended ≡ Tester → (run.script ≡ []) ⊎ IsEndedByTester run told transcript.turns
  pub peer : transcript.ended ≡ Peer → WasLast Ended told
  pub last : (before : List Told) (event : Told) → WasAt event told before → is_last_told event ≡ true
      → WasLast event told
  pub half_closed : Was DirectionEnded told
      → HasServerClose run.plan.tested run.plan.expected (got_in_all transcript.turns)
  pub closes : HasServerClose run.plan.tested run.plan.expected (got_in_all transcript.turns) → (run.script ≡ [])
      ⊎ IsHalfClosed told
  pub in_time : (before : List Told) (byte : ℕ) (bytes : List ℕ) → WasAt (Taken (byte ∷ bytes)) told before
      → IsSentInTime run before
  pub follows : (n : ℕ) → 0 < n → n < length transcript.turns
      → StandsAs run.plan.tested run.plan.expected Going (got_in_all (take n transcript.turns))
  pub waits : (before : List Told) (event : Told) → WasAt event told before → WasWaiting run transcript.turns before
  pub silences : (before : List Told) → WasAt NothingCame told before → IsWaitOver run transcript.turns told before

-- the transcript is that of the state to which a run has come that was told just this
pub record IsOfRun (start : RunState) (told : List Told) (transcript : Transcript) : Type 0 where
  pub now : RunState
  pub follows : Follows start now told
  pub turns : transcript.turns ≡ recorded now
  pub ended : now.ended ≡ Some transcript.ended

-- what comes of a run that began in this state: its transcript; and it is recorded as `IsRecordOf` says, where no piece
-- of the script is empty
pub record IsRecorded (start : RunState) (told : List Told) (transcript : Transcript) : Type 0 where
  pub of_run : IsOfRun start told transcript
  pub is_record : (run : ScriptValue) → HaveBytes run.script → BeginsRun run start → IsRecordOf run told transcript
