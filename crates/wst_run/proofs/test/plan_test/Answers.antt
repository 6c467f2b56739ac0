-- The cases that are planned can be run, and a capture is of one.
use Rattle.std.proofs.Common.{rules, ◌≡◌, true}
use Rattle.wst_commands.specs.GivenCases.{AreCasesFor, names_of, or_all}
use Rattle.wst_run.specs.Test.{is_one_case}
use Rattle.wst_run.proofs.PlanLemmas.{cases_counted, cases_run}
use Rattle.wst_run.proofs.test.plan_test.Goals as goal

pub returns-clause-fits : goal.returns-clause-fits
returns-clause-fits c =
    let ids = c.args.options.now.ids.items in
    let cases = c.in_ok-cases.cases.items in
    let are : AreCasesFor (or_all (names_of ids)) cases = search rules in
    let one : c.args.options.now.capture ≡ true → is_one_case (names_of ids) ≡ true = search rules in
    let alone : c.args.options.now.capture ≡ true → c.in-Some-at_once_given.at_once ≡ 1 = search rules in
    (cases_run (or_all (names_of ids)) cases are, (λ capture. cases_counted ids cases (one capture) are), alone)
