-- Every short script as a case of clients that come to an address.
use Rattle.std.specs.Prelude.{◌≡◌, ◌⊎◌, ℕ, ⊤, ◌+◌, List, [], ◌∷◌, None, Result, length, string_bytes}
use Rattle.ws_wire.specs.declared.role.Role.TheVariants.{Client}
use Rattle.ws_frame.specs.Devices.{Device}
use Rattle.ws_scripts.specs.declared.script.Case.{Case}
use Rattle.ws_sweep.specs.Order.{ArePlaces, count_of_scripts, script_number}
use Rattle.ws_sweep.specs.ShortCases.{IsShortCase}
use Rattle.ws_sweep.specs.Telling.{steps_text}
use Rattle.wst_commands.specs.TimeLimits.{is_limited}
use Rattle.wst_commands.specs.declared.exit.Exit.{Exit}
use Rattle.wst_commands.specs.declared.fault.Fault.{Fault}
use Rattle.wst_run.specs.ClientRuns.{EndsBehind, TestsNone, VisitsAt}
use Rattle.wst_run.specs.declared.clients_at.ClientJob.TheVariants.{Lines}
use Rattle.wst_clients.specs.Visits.{known_by}
use Rattle.ws_scripts.specs.declared.expectation.Expectation.{Expectation}
use Rattle.wst_run.specs.declared.sweep.SweepPlan.{SweepPlan}
use Rattle.wst_clients.specs.declared.visiting.Telling.TheVariants.{Scripts}
use Rattle.wst_clients.specs.declared.visiting.VisitRules.{VisitRules}

-- ---- the cases

-- the case of a script for a client, no frame of which is masked, named by all its steps
abbrev pub IsNamedCase : Expectation → List ℕ → Case → Type 0
IsNamedCase expected places case = IsShortCase Client expected None places case
    × (string_bytes case.id ≡ steps_text Client expected places case.steps)

-- these are the cases of scripts one after the other in their order, from the one of this number on
abbrev pub AreNamedCases : Expectation → ℕ → List Case → Type 0
AreNamedCases expected number [] = ⊤
AreNamedCases expected number (case ∷ cases) = ((places : List ℕ) × ArePlaces places × (script_number places ≡ number)
    × IsNamedCase expected places case) × AreNamedCases expected (number + 1) cases

-- those of all scripts of at most so many steps
abbrev pub AreShortCases : Expectation → ℕ → List Case → Type 0
AreShortCases expected steps cases = AreNamedCases expected 0 cases × (length cases ≡ count_of_scripts steps)

-- ---- a run

-- these are the rules of a plan, with these cases
pub record AreSweepRulesOf (plan : SweepPlan) (given : List Case) (rules : VisitRules) : Type 0 where
  pub cases : rules.cases.now ≡ given
  pub protocols : known_by rules ≡ plan.run.protocols
  pub budget : rules.budget ≡ plan.run.budget
  pub has_timeouts : rules.has_timeouts ≡ is_limited plan.run.timeout
  pub wait : rules.wait ≡ plan.run.wait
  pub expected : rules.expected ≡ plan.run.expected
  pub explains : rules.explains ≡ None
  pub progress : rules.progress ≡ plan.progress
  pub max_fail : rules.max_fail ≡ plan.max_fail
  pub telling : rules.telling ≡ Scripts plan.all

-- what is told of the address is told, and then clients are tested by the rules of a plan, with these cases; or nothing
-- is
abbrev pub SweepsCases : List ℕ → SweepPlan → List Case → Result Exit Fault → Device → Device → Type 0
SweepsCases address plan cases ended output faults = (rules : VisitRules) × AreSweepRulesOf plan cases rules
    × VisitsAt address Lines rules ended output faults

-- so their cases are the short scripts
abbrev pub SweepsAt : List ℕ → SweepPlan → Result Exit Fault → Device → Device → Type 0
SweepsAt address plan ended output faults =
    ((cases : List Case) × AreShortCases plan.run.expected plan.steps cases
    × SweepsCases address plan cases ended output faults) ⊎ TestsNone ended output faults

-- and how that ended is told behind what was told before
abbrev pub SweepsClientsAt : List ℕ → SweepPlan → Exit → Device → Device → Type 0
SweepsClientsAt address plan exit output faults =
    EndsBehind (λ ended first. SweepsAt address plan ended output first) exit faults
