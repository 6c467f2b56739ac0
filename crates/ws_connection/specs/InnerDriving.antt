-- Inside the crate: a probe that is served over a connection until the head of its answer is whole, or there is none;
-- and a tester that is served over one until it is done. A reader may skip this file.
use Rattle.std.specs.Prelude.{◌≡◌, ℕ, false, List, [], drop, map, Option}
use Rattle.std.specs.List.{concat}
use Rattle.ws_upgrade.specs.Accept.{key_of}
use Rattle.ws_scripts.specs.declared.transcript.Transcript.{Transcript}
use Rattle.ws_machines.specs.Told.{Told}
use Rattle.ws_machines.specs.Machines.{HasNext}
use Rattle.ws_tester.specs.Following.{BeginsRun, ScriptValue, TesterValue, WasTold}
use Rattle.ws_tester.specs.Outgoings.{HaveBytes}
use Rattle.ws_tester.specs.RunStates.{PlanValue, RunState, wanted_in}
use Rattle.ws_handshake.specs.Probes.{GotHead, LosesAnswer, ProbeValue, RefusesHead, StillAsks, is_opening}
use Rattle.ws_handshake.specs.Probes.{script_behind}
use Rattle.ws_handshake.specs.declared.probe_machine.ProbeStage.{ProbeStage}
use Rattle.ws_handshake.specs.declared.probe_machine.ProbeStage.TheVariants.{Opening, Running, Refused, Lost}
use Rattle.ws_handshake.specs.declared.response_head.ResponseDecision.TheVariants.{Accepted}
use Rattle.ws_connection.specs.ConnectionValues.{ConnectionRun}
use Rattle.ws_connection.specs.Probing.{FollowsInOrder, Records, asked_over, probe_nonce}
use Rattle.ws_connection.specs.StreamCalls.{DidCalls}
use Rattle.ws_connection.specs.UpgradeRequests.{RequestValue, text_of_request}

-- ---- the head of an answer

-- a tester has begun behind a head that is accepted, and was told nothing yet
pub record BeginsBehind (start : ProbeValue) (tester : TesterValue) (told : List Told) : Type 0 where
  pub head : List ℕ
  pub used : ℕ
  pub protocol : Option ℕ
  pub got : GotHead start head (Accepted used protocol) told
  pub begins : BeginsRun (script_behind start (drop used head)) tester.run
  pub was_told : WasTold tester tester []
  pub goes_on : HasNext (wanted_in tester.run)

-- how far a probe has come that was told just this
abbrev pub HasOpened : ProbeStage → ProbeValue → ProbeValue → List Told → Type 0
HasOpened Opening start now told = StillAsks start now told
HasOpened (Running tester) start now told = BeginsBehind start tester told
HasOpened (Refused refusal) start now told = RefusesHead start refusal told
HasOpened Lost start now told = LosesAnswer start told

-- and over which connection
pub record OpensOver (start now : ProbeValue) (run : ConnectionRun) : Type 0 where
  pub told : List Told
  pub did : DidCalls run.old run.new told
  pub opens : HasOpened now.stage start now told

-- A probe that was to put this request, and then to run a script by this plan whose turns have these bytes, was served
-- over a connection until it stood so.
pub record IsOpened (plan : PlanValue) (turns : List (List ℕ)) (request : RequestValue) (stage : ProbeStage)
    (run : ConnectionRun) : Type 0 where
  pub start : ProbeValue
  pub now : ProbeValue
  pub stands : stage ≡ now.stage
  pub asked : start.asked ≡ asked_over plan request run.old.input.allowance
  pub bytes : map concat start.script ≡ turns
  pub has_bytes : HaveBytes start.script
  pub request_is : start.rest ≡ text_of_request request (key_of probe_nonce)
  pub none_read : start.read ≡ []
  pub over : OpensOver start now run
  pub is_decided : is_opening stage ≡ false

-- ---- a script

-- A tester was served over a connection: it was told just what that did, call by call, each thing the first that it
-- wanted then.
pub record DrivesOver (start now : TesterValue) (run : ConnectionRun) : Type 0 where
  pub told : List Told
  pub did : DidCalls run.old run.new told
  pub was_told : WasTold start now told
  pub in_order : FollowsInOrder start.run now.run told

-- a tester that was told nothing yet was run to its end over a connection, from this state on, as any script that
-- begins so is recorded
abbrev pub RecordsFrom : RunState → Transcript → ConnectionRun → Type 0
RecordsFrom start transcript run = (script : ScriptValue) → HaveBytes script.script → BeginsRun script start
    → script.budget ≡ run.old.input.allowance
    → Records script.plan (map concat script.script) script.first transcript run
