-- What stands between the tags is the reason and the lines below.
use Rattle.std.proofs.Common.{rules, ◌≡◌, ◌++◌, List, ℕ, IfOk, string_bytes, subst}
use Rattle.ws_reports.specs.Junit.{failed_case}
use Rattle.ws_reports.proofs.report.failed_element.Goals as goal

pub returns : goal.returns
returns c =
    let text : c.as_str.result.now ≡ c.args.reason.now ++ c.args.told.below.now = search rules in
    subst (λ (l : List ℕ). IfOk c.failed_case.result (λ element. string_bytes element
    ≡ failed_case c.args.name.now c.args.told.verdict.now c.args.words.now l)) text c.failed_case.ensures
