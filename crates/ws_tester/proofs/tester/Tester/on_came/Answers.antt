-- What came is kept, and how it stands is heard.
use Rattle.ws_tester.proofs.ShownLemmas.{came_going, came_told}
use Rattle.ws_tester.proofs.tester.Tester.on_came.Goals as goal

pub returns-clause-heard : goal.returns-clause-heard
returns-clause-heard c = λ shown. came_told c.one_list_of_events.ensures c.args.self.now c.keep_came.new.self
    c.hear.new.self c.args.piece.now c.in_ok-keep_came.ensures.came c.in_ok-keep_came.ensures.grown
    c.in_ok-keep_came.ensures.noted c.in_ok-keep_came.ensures.over c.in_ok-keep_came.ensures.standing
    c.in_ok-keep_came.ensures.before c.in_ok-hear.ensures.heard c.in_ok-hear.ensures.seen c.in_ok-hear.ensures.stands
    c.in_ok-hear.ensures.kept c.in_ok-hear.ensures.before shown

pub returns-clause-going : goal.returns-clause-going
returns-clause-going c = came_going c.args.self.now c.keep_came.new.self c.hear.new.self c.args.piece.now
    c.in_ok-keep_came.ensures.came c.in_ok-hear.ensures.heard
