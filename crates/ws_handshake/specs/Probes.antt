-- The opening handshake of a client that then tests its server (RFC 6455 sections 4.1 and 5 to 7): its state, what it
-- wants, what it was told, and what comes of it.
use Rattle.std.specs.Prelude.{◌≡◌, ℕ, suc, ◌+◌, ◌-◌, ◌<◌, ◌⊎◌, ⊤, Bool, true, false, if◌then◌else◌, List, [], ◌∷◌, ◌++◌}
use Rattle.std.specs.Prelude.{length, drop, map, Option, MatchOption}
use Rattle.ws_upgrade.specs.Reading.{HasStatusCode, LacksStatusCode, max_head}
use Rattle.ws_scripts.specs.declared.transcript.Transcript.{Transcript}
use Rattle.ws_machines.specs.Told.{Told}
use Rattle.ws_machines.specs.Told.Told.{Ended, ReadFailed, NothingCame, WriteFailed, DeadlinePassed}
use Rattle.ws_machines.specs.Machines.{Wants}
use Rattle.ws_tester.specs.Outgoings.{Pieces}
use Rattle.ws_tester.specs.RunStates.{PlanValue, is_nothing, plan_value, run_left, wanted_in}
use Rattle.ws_tester.specs.Following.{BeginsRun, ScriptValue, TesterValue, WasTold, first_state}
use Rattle.ws_tester.specs.Records.{IsRecorded}
use Rattle.ws_handshake.specs.ReadingHeads.{AreHeadPieces, AreTaken, EndsInPiece, IsWholeHead, IsUndecided, head_room}
use Rattle.ws_handshake.specs.Responses.{DecidesResponse, NeedsResponse}
use Rattle.ws_handshake.specs.declared.response_head.ResponseDecision.{ResponseDecision}
use Rattle.ws_handshake.specs.declared.response_head.ResponseDecision.TheVariants.{Accepted, Refused as RefusedHead}
use Rattle.ws_handshake.specs.declared.probe_end.HeadRefusal.{HeadRefusal}
use Rattle.ws_handshake.specs.declared.probe_end.Probe.{Probe}
use Rattle.ws_handshake.specs.declared.probe_end.Probe.TheVariants as probe
use Rattle.ws_handshake.specs.declared.probe_machine.ProbePlan.{ProbePlan}
use Rattle.ws_handshake.specs.declared.probe_machine.ProbeStage.{ProbeStage}
use Rattle.ws_handshake.specs.declared.probe_machine.ProbeStage.TheVariants.{Opening, Running, Refused, Lost}

-- ---- the state

-- what is asked of a server: the nonce of the request and the subprotocols that it offers; and how the script is run
-- then, with at most so many bytes read behind the head
pub record AskedValue : Type 0 where
  pub nonce : List ℕ
  pub offers : List (List ℕ)
  pub plan : PlanValue
  pub budget : ℕ

abbrev pub asked_of : ProbePlan → AskedValue
asked_of plan = record {
  nonce = plan.head.nonce;
  offers = map (λ name. name.now) plan.head.offers.now;
  plan = plan_value plan.test;
  budget = plan.budget;
}

-- What is asked, and the pieces of the script's turns; what is still to be written of the request; what was read for
-- the head of the answer; and how far it has come.
pub record ProbeValue : Type 0 where
  pub asked : AskedValue
  pub script : List Pieces
  pub rest : List ℕ
  pub read : List ℕ
  pub stage : ProbeStage

-- the head of the answer isn't whole yet
abbrev pub is_opening : ProbeStage → Bool
is_opening Opening = true
is_opening _ = false

-- the script, where these bytes came behind the head
abbrev pub script_asked : AskedValue → List Pieces → List ℕ → ScriptValue
script_asked asked script first =
    record { plan = asked.plan; script = script; budget = asked.budget; first = first }

abbrev pub script_behind : ProbeValue → List ℕ → ScriptValue
script_behind x first = script_asked x.asked x.script first

-- ---- what is wanted

-- it is done
abbrev pub nothing_wanted : Wants
nothing_wanted =
    record { write = []; report = []; room = 0; end = false; waits_anew = true; done = true }

-- First the request is written, to its last byte, and then the head of the answer read, as long as it decides nothing:
-- a byte of a head is progress. What is wanted behind an accepted one, its tester wants.
abbrev pub wanted_at : ProbeStage → List ℕ → List ℕ → Wants
wanted_at Opening rest read = record {
  write = rest;
  report = [];
  room = if is_nothing rest then head_room read else 0;
  end = false;
  waits_anew = true;
  done = false;
}
wanted_at (Running tester) rest read = wanted_in tester.run
wanted_at (Refused refusal) rest read = nothing_wanted
wanted_at Lost rest read = nothing_wanted

abbrev pub wanted_of : ProbeValue → Wants
wanted_of x = wanted_at x.stage x.rest x.read

-- so much can still happen: each byte of the request, of the head, and of what follows it lowers it
abbrev pub probe_left_at : ProbeStage → ProbeValue → ℕ
probe_left_at Opening x =
    suc (length x.rest + ((max_head - length x.read) + run_left (first_state (script_behind x []) false)))
probe_left_at (Running tester) x = run_left tester.run
probe_left_at (Refused refusal) x = 0
probe_left_at Lost x = 0

abbrev pub probe_left : ProbeValue → ℕ
probe_left x = probe_left_at x.stage x

-- ---- what was told before the head is whole

-- its request is written, or the head of the answer read
pub record IsAsking (start : ProbeValue) : Type 0 where
  pub stage : start.stage ≡ Opening

-- First only that bytes of this request were taken was told, of which this is left; and then, once none is, that bytes
-- of the answer came: with those that were read before they are these.
pub record WasAsked (request rest had read : List ℕ) (told : List Told) : Type 0 where
  pub writes : List Told
  pub reads : List Told
  pub parts : told ≡ writes ++ reads
  pub taken : List ℕ
  pub are_taken : AreTaken writes taken
  pub put : request ≡ taken ++ rest
  pub came : List ℕ
  pub got : AreHeadPieces reads came
  pub adds : read ≡ had ++ came
  pub order : (reads ≡ []) ⊎ (rest ≡ [])

-- the answer decides nothing yet
abbrev pub IsOpen : AskedValue → List ℕ → Type 0
IsOpen asked read = IsUndecided (NeedsResponse asked.nonce asked.offers) read

-- All of the request was taken, and then this head of the answer came, which is decided so, and nothing else: not a
-- byte more was read than came in one piece with its end.
pub record GotHead (start : ProbeValue) (head : List ℕ) (decision : ResponseDecision) (told : List Told) : Type 0
  where
    pub asking : IsAsking start
    pub was_asked : WasAsked start.rest [] start.read head told
    pub ends : EndsInPiece told
    pub is_head : IsWholeHead (NeedsResponse start.asked.nonce start.asked.offers)
        (DecidesResponse start.asked.nonce start.asked.offers) head decision

-- ---- what was told

-- no head is whole yet
pub record StillAsks (start now : ProbeValue) (told : List Told) : Type 0 where
  pub asking : IsAsking start
  pub asked : now.asked ≡ start.asked
  pub script : now.script ≡ start.script
  pub was_asked : WasAsked start.rest now.rest start.read now.read told
  pub is_open : IsOpen start.asked now.read

-- The head of the answer is accepted. What was told has two parts: that of the head, and then that of a tester which
-- began with what came behind it, and which may read the whole budget.
pub record RunsBehind (start : ProbeValue) (tester : TesterValue) (told : List Told) : Type 0 where
  pub opening : List Told
  pub more : List Told
  pub parts : told ≡ opening ++ more
  pub head : List ℕ
  pub used : ℕ
  pub protocol : Option ℕ
  pub got : GotHead start head (Accepted used protocol) opening
  pub first : TesterValue
  pub begins : BeginsRun (script_behind start (drop used head)) first.run
  pub was_told : WasTold first tester more

-- the head of the answer is to be refused, and this is told of it
pub record RefusesHead (start : ProbeValue) (refusal : HeadRefusal) (told : List Told) : Type 0 where
  pub head : List ℕ
  pub got : GotHead start head (RefusedHead refusal.fault) told
  pub status : MatchOption refusal.status (LacksStatusCode head) (HasStatusCode head)

-- what ends a connection before the head is whole: a write that fails, of the request; and once all of it was taken, a
-- read that fails, the end of the stream, or that nothing came for the time limit; and the deadline
abbrev pub LosesHead : List ℕ → Told → Type 0
LosesHead rest WriteFailed = 0 < length rest
LosesHead rest Ended = rest ≡ []
LosesHead rest ReadFailed = rest ≡ []
LosesHead rest NothingCame = rest ≡ []
LosesHead rest (DeadlinePassed waited) = ⊤
LosesHead rest _ = ⊥

-- the last that was told ends the connection, while no head was whole
pub record LosesAnswer (start : ProbeValue) (told : List Told) : Type 0 where
  pub before : List Told
  pub last : Told
  pub parts : told ≡ before ++ last ∷ []
  pub rest : List ℕ
  pub read : List ℕ
  pub asking : IsAsking start
  pub was_asked : WasAsked start.rest rest start.read read before
  pub is_open : IsOpen start.asked read
  pub loses : LosesHead rest last

-- from the first state to the second one the machine was told just this
abbrev pub WasProbedAt : ProbeStage → ProbeValue → ProbeValue → List Told → Type 0
WasProbedAt Opening start now told = StillAsks start now told
WasProbedAt (Running tester) start now told = RunsBehind start tester told
WasProbedAt (Refused refusal) start now told = RefusesHead start refusal told
WasProbedAt Lost start now told = LosesAnswer start told

abbrev pub WasProbed : ProbeValue → ProbeValue → List Told → Type 0
WasProbed start now told = WasProbedAt now.stage start now told

-- ---- what comes of it

-- The script was run behind a head that is accepted: the transcript is what is recorded of all that was told behind it.
pub record RanBehind (start : ProbeValue) (transcript : Transcript) (told : List Told) : Type 0 where
  pub opening : List Told
  pub more : List Told
  pub parts : told ≡ opening ++ more
  pub head : List ℕ
  pub used : ℕ
  pub protocol : Option ℕ
  pub got : GotHead start head (Accepted used protocol) opening
  pub first : TesterValue
  pub begins : BeginsRun (script_behind start (drop used head)) first.run
  pub recorded : IsRecorded first.run more transcript

-- What comes of a probe that was told just this: the transcript of its script, behind a head that is accepted; why the
-- head is to be refused; or no connection, where the last that was told has ended it before the head was whole.
abbrev pub ProbeGives : ProbeValue → List Told → Probe → Type 0
ProbeGives start told (probe.Ran transcript) = RanBehind start transcript told
ProbeGives start told (probe.Refused refusal) = RefusesHead start refusal told
ProbeGives start told probe.NoConnection = LosesAnswer start told
