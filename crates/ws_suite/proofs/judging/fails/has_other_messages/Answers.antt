-- The messages got are other ones where they don't begin those due, or are too few and no fault excuses that.
use Rattle.std.proofs.Common.{◌≡◌, ◌∙◌, true, false, sym, rules}
use Rattle.ws_suite.specs.InnerJudging.{without_pings}
use Rattle.ws_suite.specs.Matching.{bare, due_messages, ends_with_fault, got_messages}
use Rattle.ws_suite.proofs.JudgeLemmas.{other_by_count, other_by_start}
use Rattle.ws_suite.proofs.judging.fails.has_other_messages.Goals as goal

pub returns-then-not-found : goal.returns-then-not-found
returns-then-not-found c =
    let x = without_pings c.args.x.now in
    let wrong : c.args.found.begins ≡ false = search rules in (
      λ t. other_by_start (ends_with_fault x.due.ending) (bare (got_messages x)) (bare (due_messages x))
          (λ h. absurd (let both : false ≡ true = sym wrong ∙ c.requires.begins.1 h in cc)),
      λ h. search rules,
    )

pub returns-then-not-ends_with_fault : goal.returns-then-not-ends_with_fault
returns-then-not-ends_with_fault c =
    let x = without_pings c.args.x.now in
    let right : c.args.found.begins ≡ true = search rules in
    let fine : ends_with_fault x.due.ending ≡ false = search rules in
    other_by_count (ends_with_fault x.due.ending) (got_messages x) (due_messages x) c.args.found.is_short_of_messages fine (c.requires.begins.0 right) c.requires.is_short_of_messages
