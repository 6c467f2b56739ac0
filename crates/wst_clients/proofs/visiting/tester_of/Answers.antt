-- The pieces of the script are the bytes of its turns.
use Rattle.wst_clients.specs.Visits.{visit_plan}
use Rattle.wst_clients.proofs.VisitingLemmas.{script_begins}
use Rattle.wst_clients.proofs.visiting.tester_of.Goals as goal

pub returns-clause-begins : goal.returns-clause-begins
returns-clause-begins c = script_begins (visit_plan c.args.round.rules.now) c.args.round.rules.now.budget
    c.args.script.now c.args.behind.items c.in_ok-turns.turns c.in_ok-tester.tester.run c.in_ok-turns.ensures
    c.in_ok-tester.ensures.begins
