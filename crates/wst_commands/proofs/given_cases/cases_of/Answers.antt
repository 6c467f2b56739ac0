-- Where no word is given the cases are those of a star.
use Rattle.std.proofs.Common.{List, ℕ, subst}
use Rattle.wst_commands.proofs.CaseLemmas.{AnswersFor, none_given, some_given}
use Rattle.wst_commands.proofs.given_cases.cases_of.Goals as goal

pub returns-then-is_empty : goal.returns-then-is_empty
returns-then-is_empty c =
    subst (λ (l : List (List ℕ)). AnswersFor l c.cases_for.result)
    (none_given c.args.words.now c.is_empty.result c.is_empty.ensures c.if-is_empty.true) c.cases_for.ensures

pub returns-else-is_empty : goal.returns-else-is_empty
returns-else-is_empty c =
    subst (λ (l : List (List ℕ)). AnswersFor l c.cases_for-else-is_empty.result)
    (some_given c.args.words.now c.is_empty.result c.is_empty.ensures c.if-is_empty.false)
    c.cases_for-else-is_empty.ensures
