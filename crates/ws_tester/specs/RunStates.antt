-- The state of a script that is run against a tested end: what it has sent and got, what it has still to send, and what
-- happened to its stream; and what each event alone changes of it.
use Rattle.std.specs.Prelude.{ℕ, ◌+◌, ◌-◌, ◌||◌, ◌&&◌, not, min, Bool, true, false, if◌then◌else◌, is_some}
use Rattle.std.specs.Prelude.{List, [], ◌∷◌, ◌++◌, length, map, Option, Some}
use Rattle.std.specs.List.{concat}
use Rattle.ws_wire.specs.declared.role.Role.{Role}
use Rattle.ws_scripts.specs.declared.expectation.Expectation.{Expectation}
use Rattle.ws_scripts.specs.declared.transcript.Ended.{Ended}
use Rattle.ws_scripts.specs.declared.transcript.Turn.{Turn}
use Rattle.ws_suite.specs.Growing.{new_turn, turn_with_got, turn_with_sent}
use Rattle.ws_machines.specs.Told.{Told}
use Rattle.ws_machines.specs.Told.Told.{Came, Taken, WriteFailed, DirectionEnded}
use Rattle.ws_machines.specs.Machines.{Wants}
use Rattle.ws_tester.specs.Standings.{is_server_close}
use Rattle.ws_tester.specs.Outgoings.{OutgoingValue, Pieces, first_piece, next_outgoing, without_front}
use Rattle.ws_tester.specs.declared.standing.Standing.{Standing}
use Rattle.ws_tester.specs.declared.tester.TestPlan.{TestPlan}

-- whom the script is run against, what is expected of that end, and whether waits can be in vain
pub record PlanValue : Type 0 where
  pub tested : Role
  pub expected : Expectation
  pub timeouts : Bool

abbrev pub plan_value : TestPlan → PlanValue
plan_value plan = record { tested = plan.tested; expected = plan.expected; timeouts = plan.has_timeouts }

-- What the turns before have sent and got; the turn under way so far; what is still to be sent; how many bytes may
-- still be read; whether a close was got from a server, whether the own direction was ended for that, and whether a
-- write has failed; the pings that were sent and aren't answered yet, and whether the time limit of what is waited for
-- begins anew; whether there is anything to record; and how the run has ended, if it has.
pub record RunState : Type 0 where
  pub plan : PlanValue
  pub past : List Turn
  pub turn : Turn
  pub outgoing : OutgoingValue
  pub allowance : ℕ
  pub closing : Bool
  pub half_closed : Bool
  pub write_failed : Bool
  pub pings : List (List ℕ)
  pub waits_anew : Bool
  pub begun : Bool
  pub ended : Option Ended

-- all turns so far
abbrev pub turns_of_run : RunState → List Turn
turns_of_run x = x.past ++ x.turn ∷ []

-- those that are recorded
abbrev pub recorded : RunState → List Turn
recorded x = if x.begun then turns_of_run x else []

-- all bytes of the turn are sent, as far as they are to be: no piece is left
abbrev pub is_nothing : List ℕ → Bool
is_nothing [] = true
is_nothing (byte ∷ bytes) = false

abbrev pub is_all_sent : RunState → Bool
is_all_sent x = is_nothing (first_piece x.outgoing.rest)

-- there is a turn after this one
abbrev pub some_turn : List Pieces → Bool
some_turn [] = false
some_turn (pieces ∷ turns) = true

abbrev pub has_more : RunState → Bool
has_more x = some_turn x.outgoing.later

-- ---- what is wanted

-- at most so many bytes are read at once
abbrev pub max_read : ℕ
max_read = 4096

-- the own direction is to be ended: a server's close was got, all is sent, and it wasn't ended yet
abbrev pub wants_own_end : RunState → Bool
wants_own_end x = not (is_some x.ended) && (x.closing && (not x.half_closed && is_all_sent x))

-- Until it has ended: the piece that is next; the end of the own direction; and while that isn't to be ended, as many
-- bytes as may be read. The time limit of what is waited for begins anew as the state tells.
abbrev pub wanted_in : RunState → Wants
wanted_in x = record {
  write = if is_some x.ended then [] else first_piece x.outgoing.rest;
  report = [];
  room = if is_some x.ended || wants_own_end x then 0 else min x.allowance max_read;
  end = wants_own_end x;
  waits_anew = x.waits_anew;
  done = is_some x.ended;
}

-- so much can still happen: each byte that is sent or read, each turn that begins, the end of the own direction and
-- that of the run lower it
abbrev pub run_left : RunState → ℕ
run_left x = length (concat x.outgoing.rest) + (length (concat (map concat x.outgoing.later))
    + (length x.outgoing.later + (x.allowance + ((if x.half_closed then 0 else 1)
    + (if is_some x.ended then 0 else 1)))))

-- ---- what an event alone changes

-- these bytes of the turn were sent
abbrev pub with_taken : List ℕ → RunState → RunState
with_taken bytes x = record x {
  turn = turn_with_sent x.turn bytes;
  outgoing = record { rest = without_front (length bytes) x.outgoing.rest; later = x.outgoing.later };
}

-- these bytes were got in the turn
abbrev pub with_came : List ℕ → RunState → RunState
with_came bytes x = record x { turn = turn_with_got x.turn bytes; allowance = x.allowance - length bytes }

-- nothing more of the turn is to be sent
abbrev pub with_nothing_to_send : RunState → RunState
with_nothing_to_send x = record x { outgoing = record { rest = []; later = x.outgoing.later } }

-- a server's close was got
abbrev pub with_closing : RunState → RunState
with_closing x = record x { closing = true }

-- What was got stands so by now. Once it has a server's close no further byte is sent, unless the close came before the
-- turn.
abbrev pub with_standing : Standing → RunState → RunState
with_standing standing x =
    if is_server_close x.plan.tested standing && not x.closing then with_closing (with_nothing_to_send x) else x

-- these pings aren't answered yet
abbrev pub with_unanswered : List (List ℕ) → RunState → RunState
with_unanswered pings x = record x { pings = pings }

-- the time limit of what is waited for begins anew, or goes on
abbrev pub with_anew : Bool → RunState → RunState
with_anew anew x = record x { waits_anew = anew }

-- a write has failed
abbrev pub with_failure : RunState → RunState
with_failure x = record x { write_failed = true }

-- what happened, but for how what came stands: the ends of a stream change nothing by themselves
abbrev pub with_event : Told → RunState → RunState
with_event (Came bytes) x = with_came bytes x
with_event (Taken bytes) x = with_taken bytes x
with_event WriteFailed x = with_failure (with_nothing_to_send x)
with_event DirectionEnded x = record x { half_closed = true }
with_event _ x = x

-- ---- how the run goes on

-- the next turn begins
abbrev pub with_next_turn : RunState → RunState
with_next_turn x = record x { past = turns_of_run x; turn = new_turn; outgoing = next_outgoing x.outgoing }

-- it ends so
abbrev pub with_run_end : Ended → RunState → RunState
with_run_end how x = record x { ended = Some how }
