-- What was told of a run, event by event.
use Rattle.std.specs.Prelude.{◌≡◌, ℕ, zero, suc, ◌≤◌, ◌⊎◌, ◌||◌, ⊤, Bool, true, false, List, [], ◌∷◌, ◌++◌, length}
use Rattle.std.specs.Prelude.{if◌then◌else◌}
use Rattle.std.specs.Prelude.{Option, Some, None}
use Rattle.ws_scripts.specs.declared.transcript.Ended.{Ended}
use Rattle.ws_scripts.specs.declared.transcript.Ended.TheVariants.{Tester}
use Rattle.ws_suite.specs.Growing.{GrowingValue, HasGrown}
use Rattle.ws_suite.specs.Progress.{NotesGot, NotesSent}
use Rattle.ws_machines.specs.Told.{Told}
use Rattle.ws_machines.specs.Told.Told.{Came, Ended as StreamEnded, ReadFailed, NothingCame, Taken, DirectionEnded}
use Rattle.ws_tester.specs.Standings.{HasServerClose, StandsAs, is_server_close}
use Rattle.ws_tester.specs.Outgoings.{Pieces, after_first, first_piece, first_turn}
use Rattle.ws_tester.specs.Outcomes.{AreFacts, HasSentEnd, got_in_all, outcome_of, outcome_of_event}
use Rattle.ws_tester.specs.RunStates.{PlanValue, RunState, turns_of_run, with_event, with_next_turn, with_run_end}
use Rattle.ws_tester.specs.RunStates.{max_read, wants_own_end, with_anew, with_standing, with_unanswered}
use Rattle.ws_tester.specs.declared.outcome.Outcome.{Outcome}
use Rattle.ws_tester.specs.declared.outcome.Outcome.TheVariants.{Rests, Next, Ends}
use Rattle.ws_tester.specs.declared.outcome.TurnFacts.{TurnFacts}
use Rattle.ws_tester.specs.declared.standing.Standing.{Standing}
use Rattle.ws_tester.specs.declared.standing.Standing.TheVariants.{Closed}

-- ---- until the run rests

-- this comes of the state, by the table
pub record HasOutcome (x : RunState) (outcome : Outcome) : Type 0 where
  pub facts : TurnFacts
  pub are_facts : AreFacts x.plan x.past (turns_of_run x) facts
  pub is : outcome_of x facts ≡ outcome

-- so many turns are over as soon as they have begun, and then the run rests, or has ended
abbrev pub SettlesIn : ℕ → RunState → RunState → Type 0
SettlesIn zero x now = (HasOutcome x Rests × (now ≡ x))
    ⊎ ((how : Ended) × HasOutcome x (Ends how) × (now ≡ with_run_end how x))
SettlesIn (suc n) x now = HasOutcome x Next × SettlesIn n (with_next_turn x) now

abbrev pub Settles : RunState → RunState → Type 0
Settles x now = (n : ℕ) × SettlesIn n x now

-- ---- one event

-- what comes of an event that decides by itself
abbrev pub Obeys : Outcome → RunState → RunState → Type 0
Obeys Rests x now = now ≡ x
Obeys Next x now = Settles (with_next_turn x) now
Obeys (Ends how) x now = now ≡ with_run_end how x

abbrev pub LeadsOnBy : Option Outcome → RunState → RunState → Type 0
LeadsOnBy (Some outcome) x now = Obeys outcome x now
LeadsOnBy None x now = Settles x now

-- nothing is read while the own direction is to be ended
abbrev pub MayBeRead : RunState → Type 0
MayBeRead x = wants_own_end x ≡ false

-- What may happen to a run that hasn't ended: no more comes than may be read, and no more at once than one read brings;
-- what is taken is a front of the next piece; and the own direction is ended where that is wanted.
abbrev pub MayHappen : RunState → Told → Type 0
MayHappen x (Came bytes) = MayBeRead x × ((length bytes ≤ x.allowance) × (length bytes ≤ max_read))
MayHappen x StreamEnded = MayBeRead x
MayHappen x ReadFailed = MayBeRead x
MayHappen x NothingCame = MayBeRead x
MayHappen x (Taken bytes) = (unsent : List ℕ) × (first_piece x.outgoing.rest ≡ bytes ++ unsent)
MayHappen x DirectionEnded = wants_own_end x ≡ true
MayHappen x _ = ⊤

-- what was got stands so, and a server's close that was got before is still its last event
pub record StandsBy (x : RunState) (standing : Standing) : Type 0 where
  pub stands : StandsAs x.plan.tested x.plan.expected standing (got_in_all (turns_of_run x))
  pub still : x.closing ≡ true → is_server_close x.plan.tested standing ≡ true

-- What comes is heard: how what was got stands by now, which pings it answers, and whether it is progress. Only then
-- the time limit of what is waited for begins anew.
pub record HearsCame (bytes : List ℕ) (old x now : RunState) : Type 0 where
  pub standing : Standing
  pub stands : StandsBy x standing
  pub pings : List (List ℕ)
  pub progress : Bool
  pub noted : NotesGot old.plan.tested (turns_of_run old) bytes old.pings pings progress
  pub is : now ≡ with_standing standing (with_anew progress (with_unanswered pings x))

-- so is what is taken: its pings aren't answered yet, and the time limit begins with its last byte
pub record HearsTaken (bytes : List ℕ) (old x now : RunState) : Type 0 where
  pub pings : List (List ℕ)
  pub noted : NotesSent old.plan.tested (turns_of_run old) bytes old.pings pings
  pub is : now ≡ with_anew true (with_unanswered pings x)

-- What is heard with an event, of the state before it and of the one that it makes. The time limit begins anew after a
-- wait in vain too, since something else is waited for then; else it goes on.
abbrev pub Hears : Told → RunState → RunState → RunState → Type 0
Hears (Came bytes) old x now = HearsCame bytes old x now
Hears (Taken bytes) old x now = HearsTaken bytes old x now
Hears NothingCame old x now = now ≡ with_anew true x
Hears _ old x now = now ≡ with_anew false x

-- an event changes what it changes by itself, and is heard
abbrev pub Changes : Told → RunState → RunState → Type 0
Changes event old heard = Hears event old (with_event event old) heard

-- an event happens: it changes the state, and then the run goes on
pub record Happens (old : RunState) (event : Told) (new : RunState) : Type 0 where
  pub goes : old.ended ≡ None
  pub may : MayHappen old event
  pub heard : RunState
  pub changes : Changes event old heard
  pub goes_on : LeadsOnBy (outcome_of_event heard event) heard new

-- ---- a list of events

abbrev pub Follows : RunState → RunState → List Told → Type 0
Follows start now [] = now ≡ start
Follows start now (event ∷ told) = (next : RunState) × Happens start event next × Follows next now told

-- ---- the beginning

-- what is to be run: the pieces of its turns, how many bytes may be read, and what came with the head
pub record ScriptValue : Type 0 where
  pub plan : PlanValue
  pub script : List Pieces
  pub budget : ℕ
  pub first : List ℕ

-- whether there is any
abbrev pub has_items : {X : Type 0} → List X → Bool
has_items [] = false
has_items (x ∷ xs) = true

-- Before anything is sent, where what came with the head has a server's close, or hasn't. Where it has, nothing is sent
-- of the first turn.
abbrev pub first_state : ScriptValue → Bool → RunState
first_state run closing = record {
  plan = run.plan;
  past = [];
  turn = record { sent = []; got = run.first };
  outgoing = record { rest = if closing then [] else first_turn run.script; later = after_first run.script };
  allowance = run.budget;
  closing = closing;
  half_closed = false;
  write_failed = false;
  pings = [];
  waits_anew = true;
  begun = has_items run.script || has_items run.first;
  ended = None;
}

-- a script without turns ends as soon as it begins
abbrev pub BeginsBy : List Pieces → RunState → RunState → Type 0
BeginsBy [] first start = start ≡ with_run_end Tester first
BeginsBy (pieces ∷ turns) first start = Settles first start

-- A run begins in this state, by how what came with the head stands.
abbrev pub BeginsRun : ScriptValue → RunState → Type 0
BeginsRun run start = (standing : Standing) × StandsAs run.plan.tested run.plan.expected standing run.first
    × BeginsBy run.script (first_state run (is_server_close run.plan.tested standing)) start

-- ---- the machine

-- a run as its machine has it: the state, what is shown of it, how what was got stands to it, and whether a close or a
-- fault was sent before the turn
pub record TesterValue : Type 0 where
  pub run : RunState
  pub seen : GrowingValue
  pub standing : Standing
  pub had_sent_end : Bool

-- What is shown is that of the turns so far, and so does what was got stand to the run.
pub record ShowsTurns (x : TesterValue) : Type 0 where
  pub grown : HasGrown x.run.plan.tested (turns_of_run x.run) x.seen
  pub stands : StandsAs x.run.plan.tested x.run.plan.expected x.standing (got_in_all (turns_of_run x.run))
  pub before : HasSentEnd x.run.plan.tested x.run.past x.had_sent_end
  pub closing : x.run.closing ≡ true
      → HasServerClose x.run.plan.tested x.run.plan.expected (got_in_all (turns_of_run x.run))

-- By now what was got stands so: a close that was there before is one still, and else it stands as it shows.
abbrev pub StandsNow : TesterValue → Standing → Type 0
StandsNow x standing = HasGrown x.run.plan.tested (turns_of_run x.run) x.seen
    → (x.standing ≡ Closed → StandsAs x.run.plan.tested x.run.plan.expected Closed (got_in_all (turns_of_run x.run)))
    → StandsAs x.run.plan.tested x.run.plan.expected standing (got_in_all (turns_of_run x.run))

-- from the first state to the second one the machine was told just this
abbrev pub WasTold : TesterValue → TesterValue → List Told → Type 0
WasTold start now told = Follows start.run now.run told × ShowsTurns now
