-- What comes of a probe whose lines were wanted.
use Rattle.std.proofs.Common.{◌≡◌, ◌∙◌, true, ap, refl, subst, sym}
use Rattle.ws_handshake.specs.declared.probe_end.Probe.TheVariants as probe
use Rattle.ws_shown.proofs.ProbeShownLemmas.{ends_running}
use Rattle.ws_shown.proofs.StageShownLemmas.{opening_shown_is_not_done}
use Rattle.ws_shown.specs.ShownProbes.{ShownValue, WasShown, wants_at}
use Rattle.ws_shown.specs.declared.shown_probe.ShownStage.{ShownStage}
use Rattle.ws_shown.proofs.shown_probe.ShownProbeMachine.into_end.Goals as goal

pub returns-in_ok-transcript-in-Running : goal.returns-in_ok-transcript-in-Running
returns-in_ok-transcript-in-Running c = λ start told h.
    let ended = c.in_ok-transcript-in-Running in
    ends_running start c.in-Running.shown c.args.self.showing told ended.transcript
    (record { probe = probe.Ran ended.transcript; last = ended.last }) refl ended.ensures
    (subst (λ (s : ShownStage). WasShown start (record { showing = c.args.self.showing; stage = s }) told)
    (sym (ap (λ (x : ShownValue). x.stage) c.self.view_is) ∙ c.in-Running.is) h)

pub unreachable-requires : goal.unreachable-requires
unreachable-requires c = opening_shown_is_not_done c.self.inside.stage c.in-Opening.field-0 c.in-Opening.is
    c.self.invariant
    (subst (λ (x : ShownValue). (wants_at x.stage).done ≡ true) (sym c.self.view_is) c.requires)
