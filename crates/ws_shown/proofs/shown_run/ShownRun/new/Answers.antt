-- What is certain of a run that begins is shown.
use Rattle.std.proofs.Common.{refl, subst, sym}
use Rattle.ws_machines.specs.Machines.{HasNext}
use Rattle.ws_tester.specs.Following.{TesterValue}
use Rattle.ws_tester.specs.RunStates.{wanted_in}
use Rattle.ws_shown.proofs.RunShownLemmas.{run_begins}
use Rattle.ws_shown.proofs.StageShownLemmas.{next_shown}
use Rattle.ws_shown.proofs.shown_run.ShownRun.new.Goals as goal

pub invariant_of-result : goal.invariant_of-result
invariant_of-result c = λ e.
    subst (λ (t : TesterValue). HasNext (wanted_in t.run)) (sym c.in_ok-shown.ensures.tester) c.requires.goes_on

pub returns-clause-told : goal.returns-clause-told
returns-clause-told c = λ script pieces begins. run_begins c.args.tester c.in_ok-shown.shown script
    c.in_ok-shown.ensures.tester pieces begins c.requires.untold c.in_ok-shown.ensures.shown

pub returns-clause-goes_on : goal.returns-clause-goes_on
returns-clause-goes_on c = next_shown c.in_ok-shown.shown.room.parts.bytes.items
    (wanted_in c.in_ok-shown.shown.tester.run) refl
    (subst (λ (t : TesterValue). HasNext (wanted_in t.run)) (sym c.in_ok-shown.ensures.tester) c.requires.goes_on)
