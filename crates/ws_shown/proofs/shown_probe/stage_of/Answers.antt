-- Which stage a probe has.
use Rattle.std.proofs.Common.{◌≡◌, ◌∙◌, ap, refl, sym}
use Rattle.ws_handshake.specs.declared.probe_machine.ProbeStage.TheVariants as stage
use Rattle.ws_tester.specs.Following.{TesterValue}
use Rattle.ws_tester.specs.RunStates.{wanted_in}
use Rattle.ws_shown.proofs.StageShownLemmas.{next_shown, runs_left, runs_next}
use Rattle.ws_shown.proofs.shown_probe.stage_of.Goals as goal

pub returns-in_ok-shown-in-Running-clause-goes_on : goal.returns-in_ok-shown-in-Running-clause-goes_on
returns-in_ok-shown-in-Running-clause-goes_on c =
    let shown = c.in_ok-shown-in-Running.shown in
    let at : c.args.machine.stage ≡ stage.Running shown.tester = sym c.into_stage.ensures
    ∙ (c.in-Running.is ∙ ap (λ (t : TesterValue). stage.Running t) (sym c.in_ok-shown-in-Running.ensures.tester)) in
    next_shown shown.room.parts.bytes.items (wanted_in shown.tester.run) refl
    (runs_next c.args.machine shown.tester at c.requires.goes_on)

pub returns-in_ok-shown-in-Running-clause-runs : goal.returns-in_ok-shown-in-Running-clause-runs
returns-in_ok-shown-in-Running-clause-runs c =
    let shown = c.in_ok-shown-in-Running.shown in
    let at : c.args.machine.stage ≡ stage.Running shown.tester = sym c.into_stage.ensures
    ∙ (c.in-Running.is ∙ ap (λ (t : TesterValue). stage.Running t) (sym c.in_ok-shown-in-Running.ensures.tester)) in
    runs_next c.args.machine shown.tester at c.requires.goes_on

pub returns-in_ok-shown-in-Running-clause-left : goal.returns-in_ok-shown-in-Running-clause-left
returns-in_ok-shown-in-Running-clause-left c =
    let shown = c.in_ok-shown-in-Running.shown in
    runs_left c.args.machine shown (sym c.into_stage.ensures
    ∙ (c.in-Running.is ∙ ap (λ (t : TesterValue). stage.Running t) (sym c.in_ok-shown-in-Running.ensures.tester)))
