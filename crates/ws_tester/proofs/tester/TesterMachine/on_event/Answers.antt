-- What was told is one event more, and that lowers what can still happen.
use Rattle.std.proofs.Common.{◌∙◌}
use Rattle.ws_tester.proofs.EventLemmas.{goes}
use Rattle.ws_tester.proofs.GoingLemmas.{told_more, told_nears}
use Rattle.ws_tester.proofs.tester.TesterMachine.on_event.Goals as goal

pub returns-clause-told : goal.returns-clause-told
returns-clause-told c = told_more c.args.self.now c.change.new.self c.go_on.new.self c.args.event c.requires
    c.in_ok-change.ensures.changes c.in_ok-go_on.ensures.goes

pub returns-clause-goes_on : goal.returns-clause-goes_on
returns-clause-goes_on c =
    c.in_ok-go_on.ensures.next (c.in_ok-change.ensures.going ∙ goes c.args.self.now.run c.requires.0)

pub returns-clause-nears : goal.returns-clause-nears
returns-clause-nears c = told_nears c.args.self.now c.change.new.self c.go_on.new.self c.args.event c.requires
    c.in_ok-change.ensures.changes c.in_ok-go_on.ensures.goes
