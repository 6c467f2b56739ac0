-- A run that is shown is told one thing more.
use Rattle.std.proofs.Common.{◌≡◌, ◌<◌, false, true, refl, subst, sym}
use Rattle.ws_machines.specs.Machines.{IsRunning, MayBeTold}
use Rattle.ws_tester.specs.Following.{WasTold}
use Rattle.ws_tester.specs.RunStates.{wanted_in}
use Rattle.ws_shown.specs.ShownTesters.{left_shown, wanted_shown, without_reports}
use Rattle.ws_shown.specs.declared.shown_tester.ShownTester.{ShownTester}
use Rattle.ws_shown.proofs.RunShownLemmas.{told_at_run}
use Rattle.ws_shown.proofs.StageShownLemmas.{next_shown}
use Rattle.ws_shown.proofs.shown_run.ShownRunMachine.on_event.Goals as goal

pub on_event-requires-clause-may : goal.on_event-requires-clause-may
on_event-requires-clause-may c = subst (λ (x : ShownTester). MayBeTold (wanted_shown x) c.args.event)
    (sym c.self.view_is) c.requires

pub on_event-requires-clause-goes : goal.on_event-requires-clause-goes
on_event-requires-clause-goes c = c.self.invariant c.if-self.false

pub invariant_of-self : goal.invariant_of-self
invariant_of-self c = λ e. absurd (let wrong : true ≡ false = e in cc)

pub returns-clause-told : goal.returns-clause-told
returns-clause-told c = λ start told h. told_at_run start c.args.self.now c.self.inside.shown c.on_event.new.self told
    c.args.event c.self.view_is c.in_ok-on_event.ensures.told c.in_ok-on_event.ensures.showing h

pub returns-clause-goes_on : goal.returns-clause-goes_on
returns-clause-goes_on c = next_shown c.on_event.new.self.room.parts.bytes.items (wanted_in c.on_event.new.self.tester.run)
    refl c.in_ok-on_event.ensures.goes_on

pub returns-clause-nears : goal.returns-clause-nears
returns-clause-nears c = λ (start, told, h).
    subst (λ (x : ShownTester). IsRunning WasTold x.tester → left_shown c.on_event.new.self < left_shown x) c.self.view_is
    c.in_ok-on_event.ensures.nears (start.tester, without_reports told, h.was_told)
