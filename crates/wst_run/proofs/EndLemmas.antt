-- A run over the end that a plan names is one over what it tests.
use Rattle.std.proofs.Common.{◌≡◌, List, ℕ, Bool, true, false, Result, Ok, Err, subst, sym}
use Rattle.std.specs.Borrow.{Bor}
use Rattle.ws_frame.specs.Devices.{Device}
use Rattle.ws_reports.specs.Reports.{ReportValue}
use Rattle.ws_scripts.specs.declared.script.Case.{Case}
use Rattle.wst_commands.specs.declared.exit.Exit.{Exit}
use Rattle.wst_commands.specs.declared.fault.Fault.{Fault}
use Rattle.wst_testing.specs.Ends.{IsEndOfPlan, MeetsEnd, MeetsEndShown}
use Rattle.wst_testing.specs.Servers.{AddressValue, MeetsAtAddress, MeetsInMemory}
use Rattle.wst_sockets.specs.declared.meeting.Meeting.{Meeting}
use Rattle.wst_testing.specs.declared.runner.End.{End}
use Rattle.wst_testing.specs.declared.runner.End.TheVariants.{Address}
use Rattle.wst_testing.specs.declared.run_plans.TestedEnd.{TestedEnd}
use Rattle.wst_testing.specs.declared.run_plans.TestedEnd.TheVariants.{Clients, Memory, Server}
use Rattle.wst_run.specs.ClientRuns.{SendsAt, TestsClientsAt}
use Rattle.wst_run.specs.ClientSweeps.{SweepsClientsAt}
use Rattle.wst_run.specs.Send.{MeetsAs, SendsCase, SendsCaseOver}
use Rattle.wst_run.specs.Sweep.{RunsSweepPlan, SweepsOver}
use Rattle.wst_run.specs.Test.{RunsPlan, RunsPlanOver}
use Rattle.wst_run.specs.declared.send.SendPlan.{SendPlan}
use Rattle.wst_run.specs.declared.sweep.SweepPlan.{SweepPlan}
use Rattle.wst_run.specs.declared.test.TestPlan.{TestPlan}

-- ---- test

pub tests_end : {N C : Type 0} (tested : TestedEnd) (plan : TestPlan) (report : ReportValue) (end : End N C)
    (exit : Exit) (output faults : Device) → IsEndOfPlan plan.run tested (Ok end)
    → RunsPlan (λ case meeting. MeetsEnd end plan.run.key case meeting) plan report exit output faults
    → RunsPlanOver tested plan report exit output faults
tests_end {N} {C} (Memory memory) plan report end exit output faults is h =
    subst (λ (e : End N C). RunsPlan (λ case meeting. MeetsEnd e plan.run.key case meeting) plan report exit output faults)
    is h
tests_end {N} {C} (Server target) plan report end exit output faults is h =
    subst (λ (e : End N C). RunsPlan (λ case meeting. MeetsEnd e plan.run.key case meeting) plan report exit output faults)
    is h
tests_end (Clients address) plan report end exit output faults is h = absurd is

-- cases that are run over a server are run over the end that it is
pub tests_server : {N C : Type 0} (end : End N C) (server : AddressValue) (plan : TestPlan) (report : ReportValue)
    (exit : Exit) (output faults : Device) → end ≡ Address server
    → RunsPlan (λ case meeting. MeetsAtAddress server plan.run.key case meeting) plan report exit output faults
    → RunsPlan (λ case meeting. MeetsEnd end plan.run.key case meeting) plan report exit output faults
tests_server {N} {C} end server plan report exit output faults is h =
    subst (λ (e : End N C). RunsPlan (λ case meeting. MeetsEnd e plan.run.key case meeting) plan report exit output faults)
    (sym is) h

pub tests_clients : {N C : Type 0} (tested : TestedEnd) (plan : TestPlan) (report : ReportValue)
    (named : Result (End N C) (Bor (List ℕ))) (address : Bor (List ℕ)) (exit : Exit) (output faults : Device)
    → named ≡ Err address → IsEndOfPlan plan.run tested named → TestsClientsAt address.now plan report exit output faults
    → RunsPlanOver tested plan report exit output faults
tests_clients {N} {C} (Memory memory) plan report named address exit output faults same is h =
    absurd (subst (λ (r : Result (End N C) (Bor (List ℕ))). IsEndOfPlan plan.run (Memory memory) r) same is)
tests_clients {N} {C} (Server target) plan report named address exit output faults same is h =
    absurd (subst (λ (r : Result (End N C) (Bor (List ℕ))). IsEndOfPlan plan.run (Server target) r) same is)
tests_clients {N} {C} (Clients given) plan report named address exit output faults same is h =
    subst (λ (l : List ℕ). TestsClientsAt l plan report exit output faults)
    (subst (λ (r : Result (End N C) (Bor (List ℕ))). IsEndOfPlan plan.run (Clients given) r) same is) h

-- ---- sweep

pub sweeps_end : {N C : Type 0} (tested : TestedEnd) (plan : SweepPlan) (end : End N C)
    (exit : Exit) (output faults : Device) → IsEndOfPlan plan.run tested (Ok end)
    → RunsSweepPlan (λ case meeting. MeetsEnd end plan.run.key case meeting) plan exit output faults
    → SweepsOver tested plan exit output faults
sweeps_end {N} {C} (Memory memory) plan end exit output faults is h =
    subst (λ (e : End N C). RunsSweepPlan (λ case meeting. MeetsEnd e plan.run.key case meeting) plan exit output faults)
    is h
sweeps_end {N} {C} (Server target) plan end exit output faults is h =
    subst (λ (e : End N C). RunsSweepPlan (λ case meeting. MeetsEnd e plan.run.key case meeting) plan exit output faults)
    is h
sweeps_end (Clients address) plan end exit output faults is h = absurd is

-- scripts that are run over a server are run over the end that it is
pub sweeps_server : {N C : Type 0} (end : End N C) (server : AddressValue) (plan : SweepPlan) (exit : Exit)
    (output faults : Device) → end ≡ Address server
    → RunsSweepPlan (λ case meeting. MeetsAtAddress server plan.run.key case meeting) plan exit output faults
    → RunsSweepPlan (λ case meeting. MeetsEnd end plan.run.key case meeting) plan exit output faults
sweeps_server {N} {C} end server plan exit output faults is h =
    subst (λ (e : End N C). RunsSweepPlan (λ case meeting. MeetsEnd e plan.run.key case meeting) plan exit output faults)
    (sym is) h

pub sweeps_clients : {N C : Type 0} (tested : TestedEnd) (plan : SweepPlan)
    (named : Result (End N C) (Bor (List ℕ))) (address : Bor (List ℕ)) (exit : Exit) (output faults : Device)
    → named ≡ Err address → IsEndOfPlan plan.run tested named → SweepsClientsAt address.now plan exit output faults
    → SweepsOver tested plan exit output faults
sweeps_clients {N} {C} (Memory memory) plan named address exit output faults same is h =
    absurd (subst (λ (r : Result (End N C) (Bor (List ℕ))). IsEndOfPlan plan.run (Memory memory) r) same is)
sweeps_clients {N} {C} (Server target) plan named address exit output faults same is h =
    absurd (subst (λ (r : Result (End N C) (Bor (List ℕ))). IsEndOfPlan plan.run (Server target) r) same is)
sweeps_clients {N} {C} (Clients given) plan named address exit output faults same is h =
    subst (λ (l : List ℕ). SweepsClientsAt l plan exit output faults)
    (subst (λ (r : Result (End N C) (Bor (List ℕ))). IsEndOfPlan plan.run (Clients given) r) same is) h

-- ---- send

-- where both meet cases so, it is one
meets_once : (asks : Bool) (Meets : Case → Meeting → Type 0) (plan : SendPlan) (case : Case) (ended : Result Exit Fault)
    (output faults : Device) → SendsCase (MeetsAs asks Meets Meets) plan case ended output faults
    → SendsCase Meets plan case ended output faults
meets_once true Meets plan case ended output faults h = h
meets_once false Meets plan case ended output faults h = h

abbrev MeetsNamed : {N C : Type 0} → SendPlan → End N C → Case → Meeting → Type 0
MeetsNamed plan end = MeetsAs plan.capture (λ case meeting. MeetsEnd end plan.run.key case meeting)
    (λ case meeting. MeetsEndShown end plan.run.key case meeting)

pub sends_end : {N C : Type 0} (tested : TestedEnd) (plan : SendPlan) (end : End N C) (case : Case)
    (ended : Result Exit Fault) (output faults : Device) → IsEndOfPlan plan.run tested (Ok end)
    → SendsCase (MeetsNamed plan end) plan case ended output faults
    → SendsCaseOver tested plan case ended output faults
sends_end {N} {C} (Memory memory) plan end case ended output faults is h =
    meets_once plan.capture (λ case meeting. MeetsInMemory memory plan.run.key case meeting) plan case ended output faults
    (subst (λ (e : End N C). SendsCase (MeetsNamed plan e) plan case ended output faults) is h)
sends_end {N} {C} (Server target) plan end case ended output faults is h =
    subst (λ (e : End N C). SendsCase (MeetsNamed plan e) plan case ended output faults) is h
sends_end (Clients address) plan end case ended output faults is h = absurd is

pub sends_clients : {N C : Type 0} (tested : TestedEnd) (plan : SendPlan) (named : Result (End N C) (Bor (List ℕ)))
    (address : Bor (List ℕ)) (case : Case) (ended : Result Exit Fault) (output faults : Device)
    → named ≡ Err address → IsEndOfPlan plan.run tested named → SendsAt address.now plan case ended output faults
    → SendsCaseOver tested plan case ended output faults
sends_clients {N} {C} (Memory memory) plan named address case ended output faults same is h =
    absurd (subst (λ (r : Result (End N C) (Bor (List ℕ))). IsEndOfPlan plan.run (Memory memory) r) same is)
sends_clients {N} {C} (Server target) plan named address case ended output faults same is h =
    absurd (subst (λ (r : Result (End N C) (Bor (List ℕ))). IsEndOfPlan plan.run (Server target) r) same is)
sends_clients {N} {C} (Clients given) plan named address case ended output faults same is h =
    subst (λ (l : List ℕ). SendsAt l plan case ended output faults)
    (subst (λ (r : Result (End N C) (Bor (List ℕ))). IsEndOfPlan plan.run (Clients given) r) same is) h
