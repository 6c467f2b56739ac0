-- The run begins as its tester does.
use Rattle.std.proofs.Common.{subst, sym}
use Rattle.ws_tester.specs.Following.{TesterValue}
use Rattle.wst_clients.specs.Visits.{BeginsScript, client_plan}
use Rattle.wst_clients.proofs.sending_to_client.run_of.Goals as goal

pub returns-clause-begins : goal.returns-clause-begins
returns-clause-begins c =
    let given = c.args.rules.now in
    subst (λ (t : TesterValue). BeginsScript (client_plan given.expected given.has_timeouts) given.budget given.case.now
    c.args.behind.items t.run) (sym c.in_ok-run.ensures.tester) c.in_ok-tester.ensures.begins

pub returns-clause-told : goal.returns-clause-told
returns-clause-told c =
    let begins = c.in_ok-tester.ensures.begins in
    c.in_ok-run.ensures.told _ begins.has_bytes begins.begins
