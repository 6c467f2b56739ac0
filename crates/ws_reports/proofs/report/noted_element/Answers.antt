-- What is noted is the words and the lines below them.
use Rattle.std.proofs.Common.{rules, ◌≡◌, List, ℕ, IfOk, string_bytes, subst}
use Rattle.ws_reports.specs.Junit.{noted_case, noted_text}
use Rattle.ws_reports.proofs.report.noted_element.Goals as goal

pub returns : goal.returns
returns c =
    let text : c.as_str.result.now ≡ noted_text c.args.words.now c.args.below.now = search rules in
    subst (λ (l : List ℕ). IfOk c.noted_case.result (λ element. string_bytes element ≡ noted_case c.args.name.now l))
    text c.noted_case.ensures
