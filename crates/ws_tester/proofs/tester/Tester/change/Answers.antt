-- What comes is heard, and what is taken is of what is wanted.
use Rattle.std.proofs.Common.{sym, subst}
use Rattle.ws_machines.specs.Machines.{told_at}
use Rattle.ws_machines.specs.declared.stream.StreamEvent.{StreamEvent}
use Rattle.ws_tester.specs.Following.{Changes, ShowsTurns}
use Rattle.ws_tester.specs.RunStates.{wanted_in}
use Rattle.ws_tester.proofs.GoingLemmas.{taken_changes}
use Rattle.ws_tester.proofs.tester.Tester.change.Goals as goal

pub returns-in_ok-on_came-in-Came-clause-changes : goal.returns-in_ok-on_came-in-Came-clause-changes
returns-in_ok-on_came-in-Came-clause-changes c = λ shown.
    subst (λ (ev : StreamEvent). Changes (told_at (wanted_in c.args.self.now.run) ev) c.args.self.now.run
    c.on_came.new.self.run × ShowsTurns c.on_came.new.self) (sym c.in-Came.is)
    (c.in_ok-on_came-in-Came.ensures.heard shown)

pub returns-in_ok-on_taken-in-Taken-clause-changes : goal.returns-in_ok-on_taken-in-Taken-clause-changes
returns-in_ok-on_taken-in-Taken-clause-changes c = λ shown.
    taken_changes c.args.self.now c.on_taken.new.self c.args.event c.in-Taken.count c.in-Taken.is c.requires.0
    c.in_ok-on_taken-in-Taken.ensures.taken c.in_ok-on_taken-in-Taken.ensures.standing
    c.in_ok-on_taken-in-Taken.ensures.before
    c.in_ok-on_taken-in-Taken.ensures.grown c.in_ok-on_taken-in-Taken.ensures.noted shown
