-- Inside the crate: what one event changes of a probe whose answer isn't decided. A reader may skip this file.
use Rattle.std.specs.Prelude.{◌≡◌, ℕ, ◌⊎◌, ⊤, List, [], ◌++◌, drop, Option, MatchOption}
use Rattle.ws_upgrade.specs.Reading.{HasStatusCode, LacksStatusCode}
use Rattle.ws_machines.specs.Machines.{HasNext}
use Rattle.ws_machines.specs.declared.stream.StreamEvent.{StreamEvent}
use Rattle.ws_machines.specs.declared.stream.StreamEvent.TheVariants as event
use Rattle.ws_tester.specs.Following.{BeginsRun, WasTold}
use Rattle.ws_tester.specs.RunStates.{wanted_in}
use Rattle.ws_handshake.specs.Responses.{DecidesResponse}
use Rattle.ws_tester.specs.Outgoings.{Pieces}
use Rattle.ws_handshake.specs.Probes.{AskedValue, IsOpen, ProbeValue, script_asked}
use Rattle.ws_handshake.specs.declared.response_head.ResponseDecision.TheVariants.{Accepted, Refused as RefusedHead}
use Rattle.ws_handshake.specs.declared.probe_machine.ProbeStage.{ProbeStage}
use Rattle.ws_handshake.specs.declared.probe_machine.ProbeStage.TheVariants.{Opening, Running, Refused, Lost}

-- the answer isn't decided: this is left of the request, and this was read of the answer
pub record StaysUndecided (old new : ProbeValue) (rest read : List ℕ) : Type 0 where
  pub asked : new.asked ≡ old.asked
  pub script : new.script ≡ old.script
  pub left : new.rest ≡ rest
  pub got : new.read ≡ read
  pub stage : new.stage ≡ Opening

-- a tester begins with what came behind a head that is accepted, or the head is refused
abbrev pub IsStageBehind : AskedValue → List Pieces → List ℕ → ProbeStage → Type 0
IsStageBehind asked script head Opening = ⊥
IsStageBehind asked script head (Running tester) = (used : ℕ) × (protocol : Option ℕ)
    × DecidesResponse asked.nonce asked.offers head (Accepted used protocol)
    × BeginsRun (script_asked asked script (drop used head)) tester.run × WasTold tester tester []
    × HasNext (wanted_in tester.run)
IsStageBehind asked script head (Refused refusal) =
    DecidesResponse asked.nonce asked.offers head (RefusedHead refusal.fault)
    × MatchOption refusal.status (LacksStatusCode head) (HasStatusCode head)
IsStageBehind asked script head Lost = ⊥

-- these bytes were read by now: they decide nothing, or they decide
abbrev pub ReadsAnswer : ProbeValue → ProbeValue → List ℕ → Type 0
ReadsAnswer old new read =
    (StaysUndecided old new old.rest read × IsOpen old.asked read) ⊎ IsStageBehind old.asked old.script read new.stage

-- what happened leaves it so
abbrev pub OpensOn : ProbeValue → StreamEvent → ProbeValue → Type 0
OpensOn old (event.Came piece) new = ReadsAnswer old new (old.read ++ piece.now)
OpensOn old (event.Taken count) new = StaysUndecided old new (drop count old.rest) old.read
OpensOn old event.DirectionEnded new = ⊤
OpensOn old event.Reported new = ⊤
OpensOn old _ new = new.stage ≡ Lost
