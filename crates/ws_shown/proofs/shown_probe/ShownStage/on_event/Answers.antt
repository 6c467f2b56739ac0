-- A stage is told one thing more.
use Rattle.std.proofs.Common.{refl}
use Rattle.ws_tester.specs.RunStates.{wanted_in}
use Rattle.ws_shown.specs.ShownProbes.{shown_left_at}
use Rattle.ws_shown.specs.declared.shown_probe.ShownStage.TheVariants as stage
use Rattle.ws_shown.proofs.StageShownLemmas.{comes_at, may_at, nears_at, next_shown, over_is_not_told, over_wants_nothing}
use Rattle.ws_shown.proofs.StageShownLemmas.{runs_at}
use Rattle.ws_shown.proofs.shown_probe.ShownStage.on_event.Goals as goal

pub opened_by-requires : goal.opened_by-requires
opened_by-requires c = record {
  may = may_at c.args.self (stage.Opening c.in-Opening.machine) c.args.event c.in-Opening.is c.requires.may;
}

pub told-requires-clause-may : goal.told-requires-clause-may
told-requires-clause-may c = may_at c.args.self (stage.Running c.in-Running.tester) c.args.event c.in-Running.is
    c.requires.may

pub told-requires-clause-goes : goal.told-requires-clause-goes
told-requires-clause-goes c = runs_at c.args.self (stage.Running c.in-Running.tester) c.in-Running.is
    c.requires.runs

pub returns-in_ok-stage-in-Opening-clause-comes : goal.returns-in_ok-stage-in-Opening-clause-comes
returns-in_ok-stage-in-Opening-clause-comes c = comes_at c.args.showing c.args.self
    (stage.Opening c.in-Opening.machine) c.in_ok-stage-in-Opening.stage c.args.event c.in-Opening.is
    c.in_ok-stage-in-Opening.ensures.comes

pub returns-in_ok-stage-in-Opening-clause-nears : goal.returns-in_ok-stage-in-Opening-clause-nears
returns-in_ok-stage-in-Opening-clause-nears c = nears_at c.args.self (stage.Opening c.in-Opening.machine)
    (shown_left_at c.in_ok-stage-in-Opening.stage) c.in-Opening.is c.in_ok-stage-in-Opening.ensures.nears

pub returns-in_ok-tester-in-Running-clause-comes : goal.returns-in_ok-tester-in-Running-clause-comes
returns-in_ok-tester-in-Running-clause-comes c = comes_at c.args.showing c.args.self
    (stage.Running c.in-Running.tester) (stage.Running c.in_ok-tester-in-Running.tester) c.args.event c.in-Running.is
    (c.in_ok-tester-in-Running.ensures.told, c.in_ok-tester-in-Running.ensures.showing)

pub returns-in_ok-tester-in-Running-clause-goes_on : goal.returns-in_ok-tester-in-Running-clause-goes_on
returns-in_ok-tester-in-Running-clause-goes_on c = next_shown c.in_ok-tester-in-Running.tester.room.parts.bytes.items
    (wanted_in c.in_ok-tester-in-Running.tester.tester.run) refl c.in_ok-tester-in-Running.ensures.goes_on

pub returns-in_ok-tester-in-Running-clause-runs : goal.returns-in_ok-tester-in-Running-clause-runs
returns-in_ok-tester-in-Running-clause-runs c = c.in_ok-tester-in-Running.ensures.goes_on

pub returns-in_ok-tester-in-Running-clause-nears : goal.returns-in_ok-tester-in-Running-clause-nears
returns-in_ok-tester-in-Running-clause-nears c = nears_at c.args.self (stage.Running c.in-Running.tester)
    (shown_left_at (stage.Running c.in_ok-tester-in-Running.tester)) c.in-Running.is c.in_ok-tester-in-Running.ensures.nears

pub returns-in-Refused-clause-comes : goal.returns-in-Refused-clause-comes
returns-in-Refused-clause-comes c = absurd (over_is_not_told c.args.self c.args.event
    (over_wants_nothing c.args.self c.in-Refused.is) c.requires.may)

pub returns-in-Refused-clause-nears : goal.returns-in-Refused-clause-nears
returns-in-Refused-clause-nears c = absurd (over_is_not_told c.args.self c.args.event
    (over_wants_nothing c.args.self c.in-Refused.is) c.requires.may)
