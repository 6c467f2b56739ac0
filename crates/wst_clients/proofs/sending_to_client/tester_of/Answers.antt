-- The pieces of the script are the bytes of its turns.
use Rattle.wst_clients.specs.Visits.{client_plan}
use Rattle.wst_clients.proofs.VisitingLemmas.{script_begins}
use Rattle.wst_clients.proofs.sending_to_client.tester_of.Goals as goal

pub returns-clause-begins : goal.returns-clause-begins
returns-clause-begins c = script_begins (client_plan c.args.rules.now.expected c.args.rules.now.has_timeouts)
    c.args.rules.now.budget c.args.rules.now.case.now c.args.behind.items c.in_ok-turns.turns
    c.in_ok-tester.tester.run c.in_ok-turns.ensures c.in_ok-tester.ensures.begins
