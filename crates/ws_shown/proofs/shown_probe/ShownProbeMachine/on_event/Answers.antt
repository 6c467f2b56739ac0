-- A probe that is shown is told one thing more.
use Rattle.std.proofs.Common.{◌≡◌, ◌∙◌, ◌<◌, ap, subst, sym}
use Rattle.ws_machines.specs.Machines.{MayBeTold, told_at}
use Rattle.ws_shown.specs.ShownProbes.{ComesOn, IsRunningAt, ShownValue, shown_left_at, shown_wants, wants_at}
use Rattle.ws_shown.specs.declared.shown_probe.ShownStage.{ShownStage}
use Rattle.ws_shown.proofs.ProbeShownLemmas.{told_at_stage, was_running}
use Rattle.ws_shown.proofs.shown_probe.ShownProbeMachine.on_event.Goals as goal

pub on_event-requires-clause-may : goal.on_event-requires-clause-may
on_event-requires-clause-may c = subst (λ (x : ShownValue). MayBeTold (wants_at x.stage) c.args.event)
    (sym (ap (λ (s : ShownStage). record { showing = c.self.inside.showing; stage = s }) c.replace-stage.ensures.value
    ∙ c.self.view_is)) c.requires

pub returns-clause-told : goal.returns-clause-told
returns-clause-told c = λ start told h.
    let same : record { showing = c.self.inside.showing; stage = c.replace-stage.result } ≡ c.args.self.now =
    ap (λ (s : ShownStage). record { showing = c.self.inside.showing; stage = s }) c.replace-stage.ensures.value
    ∙ c.self.view_is in
    told_at_stage start c.args.self.now c.self.inside.showing c.replace-stage.result c.in_ok-stage.stage
    c.replace.new.dest (told_at (shown_wants c.args.self.now) c.args.event) told same
    (subst (λ (x : ShownValue). ComesOn c.self.inside.showing c.replace-stage.result c.in_ok-stage.stage
    (told_at (wants_at x.stage) c.args.event)) same c.in_ok-stage.ensures.comes) c.replace.ensures.after h

pub returns-clause-nears : goal.returns-clause-nears
returns-clause-nears c = λ (start, told, h).
    let same : record { showing = c.self.inside.showing; stage = c.replace-stage.result } ≡ c.args.self.now =
    ap (λ (s : ShownStage). record { showing = c.self.inside.showing; stage = s }) c.replace-stage.ensures.value
    ∙ c.self.view_is in
    subst (λ (s : ShownStage). shown_left_at s < shown_left_at c.args.self.now.stage) (sym c.replace.ensures.after)
    (subst (λ (x : ShownValue). IsRunningAt x.stage → shown_left_at c.in_ok-stage.stage < shown_left_at x.stage) same
    c.in_ok-stage.ensures.nears (was_running start c.args.self.now told h))
