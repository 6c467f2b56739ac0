-- A probe is told one thing more: before the head of the answer is whole, or by its tester behind it.
use Rattle.std.proofs.Common.{◌∙◌, ap, subst, sym}
use Rattle.ws_handshake.specs.Probes.{ProbeValue}
use Rattle.ws_handshake.specs.InnerProbes.{OpensOn}
use Rattle.ws_handshake.proofs.ProbeLemmas.{opens_lower, opens_told, runs_on}
use Rattle.ws_handshake.proofs.probe_machine.ProbeMachineMachine.on_event.Goals as goal

pub returns-in_ok-on_opening-in-Opening-clause-told : goal.returns-in_ok-on_opening-in-Opening-clause-told
returns-in_ok-on_opening-in-Opening-clause-told c = opens_told c.args.self.now c.on_opening.new.self c.args.event
    (sym (ap (λ (x : ProbeValue). x.stage) c.self.view_is) ∙ c.in-Opening.is) c.requires
    (subst (λ (x : ProbeValue). OpensOn x c.args.event c.on_opening.new.self) c.self.view_is
    c.in_ok-on_opening-in-Opening.ensures.opens)

pub returns-in_ok-on_opening-in-Opening-clause-nears : goal.returns-in_ok-on_opening-in-Opening-clause-nears
returns-in_ok-on_opening-in-Opening-clause-nears c = λ running.
    opens_lower c.args.self.now c.on_opening.new.self c.args.event
    (sym (ap (λ (x : ProbeValue). x.stage) c.self.view_is) ∙ c.in-Opening.is) c.requires
    (subst (λ (x : ProbeValue). OpensOn x c.args.event c.on_opening.new.self) c.self.view_is
    c.in_ok-on_opening-in-Opening.ensures.opens)

pub returns-in_ok-on_event-in-Running-clause-told : goal.returns-in_ok-on_event-in-Running-clause-told
returns-in_ok-on_event-in-Running-clause-told c = runs_on c.args.self.now c.in-Running.tester c.on_event.new.self
    c.args.event (sym (ap (λ (x : ProbeValue). x.stage) c.self.view_is) ∙ c.in-Running.is)
    c.in_ok-on_event-in-Running.ensures.told
