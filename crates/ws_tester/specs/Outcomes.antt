-- When a turn is over and when the run ends: what is asked of the state, and the table of what comes of the answers.
use Rattle.std.specs.Prelude.{◌≡◌, ℕ, ◌||◌, ◌&&◌, ◌↔◌, not, nat_eq, Bool, true, false, List}
use Rattle.std.specs.Prelude.{Option, Some, None}
use Rattle.std.specs.List.{concat}
use Rattle.ws_wire.specs.declared.role.Role.{Role}
use Rattle.ws_wire.specs.declared.role.Role.TheVariants.{Client, Server}
use Rattle.ws_scripts.specs.declared.expectation.Expectation.{Expectation}
use Rattle.ws_scripts.specs.declared.transcript.Ended.{Ended}
use Rattle.ws_scripts.specs.declared.transcript.Ended.TheVariants.{Tester, Peer, Broken}
use Rattle.ws_scripts.specs.declared.transcript.Turn.{Turn}
use Rattle.ws_suite.specs.Evidence.{got_turns, sent_turns}
use Rattle.ws_scripts.specs.declared.expectation.Expectation.TheVariants.{Echo, Protocol}
use Rattle.ws_suite.specs.Growing.{EndInsideFrame, CannotComeAfter}
use Rattle.ws_suite.specs.Waiting.{AreTurnsAnsweredBy, AreTurnsSeenAnswered}
use Rattle.ws_machines.specs.Told.{Told}
use Rattle.ws_machines.specs.Told.Told.{ReadFailed, Ended as StreamEnded, NothingCame, DeadlinePassed}
use Rattle.ws_tester.specs.Standings.{HasStanding, StandsAs, stops_run}
use Rattle.ws_tester.specs.RunStates.{PlanValue, RunState, has_more, is_all_sent, wants_own_end}
use Rattle.ws_tester.specs.declared.outcome.Outcome.{Outcome}
use Rattle.ws_tester.specs.declared.outcome.Outcome.TheVariants.{Rests, Next, Ends}
use Rattle.ws_tester.specs.declared.outcome.TurnFacts.{TurnFacts}
use Rattle.ws_tester.specs.declared.standing.Standing.{Standing}
use Rattle.ws_tester.specs.declared.standing.Standing.TheVariants.{Going, Closed, Faulty}

-- ---- what is asked

-- what was sent in all turns, and what was got
abbrev pub sent_in_all : List Turn → List ℕ
sent_in_all turns = concat (sent_turns turns)

abbrev pub got_in_all : List Turn → List ℕ
got_in_all turns = concat (got_turns turns)

-- whether it has a close or a fault
abbrev pub has_end : Standing → Bool
has_end Going = false
has_end Closed = true
has_end Faulty = true

abbrev pub HasSentEnd : Role → List Turn → Bool → Type 0
HasSentEnd tested turns answer =
    (standing : Standing) × HasStanding tested standing (sent_in_all turns) × (answer ≡ has_end standing)

-- The answers are right: how what was got stands to the run; whether what was sent has a close or a fault by now, and
-- whether that was so before the turn; whether what is owed has come, where a yes is right and what a run sees is a
-- yes; whether what was got ends inside a frame; and whether what an echo owes can't come any more.
pub record AreFacts (plan : PlanValue) (past turns : List Turn) (facts : TurnFacts) : Type 0 where
  pub standing : StandsAs plan.tested plan.expected facts.standing (got_in_all turns)
  pub sent_end : HasSentEnd plan.tested turns facts.has_sent_end
  pub sent_before : HasSentEnd plan.tested past facts.had_sent_end
  pub come : facts.is_answered ≡ true → AreTurnsAnsweredBy plan.expected plan.tested turns
  pub seen : AreTurnsSeenAnswered plan.expected plan.tested turns → facts.is_answered ≡ true
  pub inside : (facts.is_inside ≡ true) ↔ EndInsideFrame plan.tested turns
  pub cannot : (facts.cannot_come ≡ true) ↔ CannotComeAfter plan.tested turns

-- ---- the table

-- the last turn is waited out to a server always, and to a client, which has nothing else to end for, where it was sent
-- a close or a fault
abbrev pub waits_for_end : Role → Bool → Bool
waits_for_end Server sent = true
waits_for_end Client sent = sent

-- Whether the turn is waited for to the end of the stream, though what is owed has come. A turn before the last one
-- is where waits can be in vain, and it is the one that has sent the close or the fault.
abbrev pub is_waited_out : PlanValue → Bool → TurnFacts → Bool
is_waited_out plan true facts = plan.timeouts && (facts.has_sent_end && not facts.had_sent_end)
is_waited_out plan false facts = waits_for_end plan.tested facts.has_sent_end

-- What is waited for has come: what is owed, and in the last turn the rest of a frame that has begun. No write has
-- failed, what was got has neither a close nor a fault, and the turn isn't waited out.
abbrev pub has_come : RunState → TurnFacts → Bool
has_come x facts = not (has_end facts.standing) && (not x.write_failed && (not (is_waited_out x.plan (has_more x) facts)
    && (facts.is_answered && (has_more x || not facts.is_inside))))

-- messages are owed by an echo alone
abbrev pub owes_messages : Expectation → Bool
owes_messages Echo = true
owes_messages Protocol = false

-- What is waited for can't come any more: in the last turn what was got can't become what an echo owes. No write has
-- failed, and what was got has neither a close nor a fault and doesn't end inside a frame.
abbrev pub is_in_vain : RunState → TurnFacts → Bool
is_in_vain x facts = owes_messages x.plan.expected && (not (has_more x) && (not x.write_failed
    && (not (has_end facts.standing) && (facts.cannot_come && not facts.is_inside))))

-- nothing is waited for in the turn any more
abbrev pub is_turn_over : RunState → TurnFacts → Bool
is_turn_over x facts = has_come x facts || is_in_vain x facts

-- where it has come, the next turn begins, or after the last one the tester ends the run
abbrev pub next_or_end : Bool → Outcome
next_or_end true = Next
next_or_end false = Ends Tester

-- by whether what was got ends the run by itself, all of the turn is sent, what is waited for has come, nothing more
-- may be read, and there is a turn after this one
abbrev pub by_tests : Bool → Bool → Bool → Bool → Bool → Outcome
by_tests true sent come spent more = Ends Tester
by_tests false false come spent more = Rests
by_tests false true true spent more = next_or_end more
by_tests false true false true more = Ends Broken
by_tests false true false false more = Rests

-- nothing more may be read, and the own direction isn't to be ended
abbrev pub is_spent : RunState → Bool
is_spent x = nat_eq x.allowance 0 && not (wants_own_end x)

-- What comes of a state. What was got ends the run by itself, by a fault or from a client by a close. Once all of the
-- turn is sent: where nothing is waited for any more, it goes on; else where nothing more may be read, it is broken
-- off, once the own direction is ended if it is to be.
abbrev pub outcome_of : RunState → TurnFacts → Outcome
outcome_of x facts = by_tests (stops_run x.plan.tested facts.standing) (is_all_sent x) (is_turn_over x facts)
    (is_spent x) (has_more x)

-- ---- what an event ends by itself

-- by whether a write has failed
abbrev pub unless_failed : Bool → Ended → Outcome
unless_failed true ended = Ends Broken
unless_failed false ended = Ends ended

-- after a wait in vain for a turn that is all sent the next one begins, if there is one, no write has failed and no
-- close was got
abbrev pub by_silence : Bool → Bool → Bool → Outcome
by_silence false failed more = Rests
by_silence true true more = Ends Broken
by_silence true false more = next_or_end more

abbrev pub outcome_of_silence : RunState → Outcome
outcome_of_silence x = by_silence (is_all_sent x) x.write_failed (has_more x && not x.closing)

-- after the deadline, by whether it was waited long enough, or no time is too long
abbrev pub by_deadline : Bool → Outcome
by_deadline true = Ends Tester
by_deadline false = Ends Broken

-- A failed read breaks the run off; the end of the stream ends it, by the tested end where no write has failed; so does
-- a wait in vain; and the deadline, by the tester where it was waited long enough, or no time is too long.
abbrev pub outcome_of_event : RunState → Told → Option Outcome
outcome_of_event x ReadFailed = Some (Ends Broken)
outcome_of_event x StreamEnded = Some (unless_failed x.write_failed Peer)
outcome_of_event x NothingCame = Some (outcome_of_silence x)
outcome_of_event x (DeadlinePassed waited) =
    Some (by_deadline (waited || not x.plan.timeouts))
outcome_of_event x _ = None
