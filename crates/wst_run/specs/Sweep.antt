-- A run of `sweep`: every short script is run over the end that the words name; or it is told why none is.
use Rattle.std.specs.Prelude.{◌≡◌, ◌⊎◌, ℕ, ◌<◌, ◌≤◌, ◌&&◌, ◌||◌, Bool, true, false, List, Option, None, Result}
use Rattle.std.specs.Prelude.{codes, nat_lt}
use Rattle.ws_frame.specs.Devices.{Device, IsUntouched}
use Rattle.ws_scripts.specs.declared.script.Case.{Case}
use Rattle.ws_sweep.specs.Order.{max_steps}
use Rattle.wst_words.specs.declared.sweep.SweepOptions.{SweepOptions}
use Rattle.wst_commands.specs.Devices.{Tells}
use Rattle.wst_commands.specs.declared.exit.Exit.{Exit}
use Rattle.wst_commands.specs.declared.exit.Exit.TheVariants.{WrongWords}
use Rattle.wst_run.specs.ClientSweeps.{SweepsClientsAt}
use Rattle.wst_run.specs.Test.{tells_names}
use Rattle.wst_testing.specs.RunPlans.{CanNotRun, GivesAtOnce, GivesMaxFail, HasTestsAtOnce, HasMaxFail, IsRunPlan}
use Rattle.wst_testing.specs.RunPlans.{TellsRefusal, asks_in_turn, tells_waits, tested_role}
use Rattle.wst_testing.specs.declared.run_plans.UsualTimes.TheVariants.{OfCases}
use Rattle.wst_testing.specs.Servers.{MeetsAtTarget, MeetsInMemory}
use Rattle.wst_testing.specs.Sweeps.{SweepsScripts, TellsSweepEnd}
use Rattle.wst_sockets.specs.declared.meeting.Meeting.{Meeting}
use Rattle.wst_testing.specs.declared.run_plans.Refusal.TheVariants as refusal
use Rattle.wst_testing.specs.declared.run_plans.RunPlan.{RunPlan}
use Rattle.wst_testing.specs.declared.run_plans.TestedEnd.{TestedEnd}
use Rattle.wst_testing.specs.declared.run_plans.TestedEnd.TheVariants.{Clients, Memory, Server}
use Rattle.wst_run.specs.declared.sweep.SweepPlan.{SweepPlan}
use Rattle.wst_run.specs.declared.sweep.SweepRefusal.{SweepRefusal}
use Rattle.wst_run.specs.declared.sweep.SweepRefusal.TheVariants.{AtOnceInTurn, BadAtOnce, BadMaxFail, Other}
use Rattle.wst_run.specs.declared.sweep.SweepRefusal.TheVariants.{TooManySteps}
use Rattle.wst_testing.specs.declared.runner.RunStop.{RunStop}
use Rattle.wst_testing.specs.declared.sweeping.SweepRules.{SweepRules}

-- ---- what the words ask for

-- no script has so many steps
abbrev pub HasTooManySteps : ℕ → Type 0
HasTooManySteps steps = max_steps < steps

abbrev pub GivesSteps : ℕ → ℕ → Type 0
GivesSteps steps given = (given ≡ steps) × (steps ≤ max_steps)

-- several are to run at a time, of an end that is tested in one after the other
abbrev pub asks_scripts_in_turn : SweepOptions → Bool
asks_scripts_in_turn options = asks_in_turn options.at_once options.run.role options.run.target.now

-- the words ask for this
pub record IsSweepPlan (options : SweepOptions) (plan : SweepPlan) : Type 0 where
  pub steps : GivesSteps options.steps plan.steps
  pub run : IsRunPlan OfCases options.run plan.run
  pub all : plan.all ≡ options.all
  pub progress : plan.progress ≡ options.progress
  pub max_fail : GivesMaxFail options.max_fail plan.max_fail
  pub at_a_time : asks_scripts_in_turn options ≡ false
  pub at_once : GivesAtOnce options.at_once plan.at_once

-- scripts may have so many steps, and so many may run at a time
abbrev pub CanSweep : SweepOptions → Type 0
CanSweep options = (options.steps ≤ max_steps) × (asks_scripts_in_turn options ≡ false)

-- and nothing is wrong with the words that are shared
abbrev pub CanRunSweep : SweepOptions → Type 0
CanRunSweep options = CanSweep options × ((run : RunPlan) × IsRunPlan OfCases options.run run)

-- The first of these that applies: no script has so many steps; several are to run at a time that can't be; the shared
-- words can't be run; the number of failures is none, or that of scripts at a time. Memory may run out at any of the
-- shared ones.
abbrev pub RefusesSweep : SweepOptions → SweepRefusal → Type 0
RefusesSweep options TooManySteps = HasTooManySteps options.steps
RefusesSweep options AtOnceInTurn = (options.steps ≤ max_steps) × (asks_scripts_in_turn options ≡ true)
RefusesSweep options (Other why) = CanSweep options × CanNotRun options.run why
RefusesSweep options BadMaxFail = CanRunSweep options × ¬ (HasMaxFail options.max_fail)
RefusesSweep options BadAtOnce = CanRunSweep options × HasMaxFail options.max_fail × ¬ (HasTestsAtOnce options.at_once)

-- what is told of a refusal, and the exit
abbrev pub TellsSweepRefusal : SweepRefusal → Exit → Device → Type 0
TellsSweepRefusal TooManySteps exit faults = (exit ≡ WrongWords) × Tells (codes "--steps takes 0 to 4\n") faults
TellsSweepRefusal AtOnceInTurn exit faults = TellsRefusal refusal.AtOnceInTurn exit faults
TellsSweepRefusal BadMaxFail exit faults = TellsRefusal refusal.BadMaxFail exit faults
TellsSweepRefusal BadAtOnce exit faults = TellsRefusal refusal.BadAtOnce exit faults
TellsSweepRefusal (Other why) exit faults = TellsRefusal why exit faults

-- ---- a run

-- how its scripts are run
abbrev pub sweep_rules_of : SweepPlan → SweepRules
sweep_rules_of plan = record {
  run = record {
    tested = tested_role plan.run.tested;
    expected = plan.run.expected;
    key = plan.run.key;
    explains = None;
    progress = tells_names plan.progress plan.at_once;
    is_limited = plan.run.gives_limit;
    max_fail = plan.max_fail;
  };
  steps = plan.steps;
  all = plan.all;
  names = tells_waits plan.run || (plan.progress && nat_lt 1 plan.at_once);
}

-- the plan is carried out over ends that meet cases so, and how that ended is told behind what was told before
abbrev pub RunsSweepPlan : (Case → Meeting → Type 0) → SweepPlan → Exit → Device → Device → Type 0
RunsSweepPlan Meets plan exit output faults = (ended : Result Exit RunStop) × (held : Option (List ℕ))
    × SweepsScripts Meets (sweep_rules_of plan) ended output × TellsSweepEnd plan.run.tested ended exit
    (record faults { old = held })

-- the plan is carried out over this end
abbrev pub SweepsOver : TestedEnd → SweepPlan → Exit → Device → Device → Type 0
SweepsOver (Memory end) plan exit output faults =
    RunsSweepPlan (MeetsInMemory end plan.run.key) plan exit output faults
SweepsOver (Server target) plan exit output faults =
    RunsSweepPlan (MeetsAtTarget target plan.run) plan exit output faults
SweepsOver (Clients address) plan exit output faults = SweepsClientsAt address.now plan exit output faults

-- A run of `sweep`: every short script is run as the words ask; or none is, and it is told why.
abbrev pub RunsSweep : SweepOptions → Exit → Device → Device → Type 0
RunsSweep options exit output faults =
    ((plan : SweepPlan) × IsSweepPlan options plan
    × SweepsOver plan.run.tested plan exit output faults)
    ⊎ ((reason : SweepRefusal) × RefusesSweep options reason × IsUntouched output
    × TellsSweepRefusal reason exit faults)
