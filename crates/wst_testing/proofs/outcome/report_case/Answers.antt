-- What there is to tell of a case are its name, its title, the words of its outcome, and what stands below its line.
use Rattle.std.proofs.Common.{rules, ◌≡◌, ◌∙◌, ap, string_bytes}
use Rattle.ws_reports.specs.Kept.{verdict_kept}
use Rattle.ws_reports.specs.KnownCounts.{change_on}
use Rattle.ws_reports.specs.Remarks.{told_failed}
use Rattle.ws_reports.specs.Reports.{case_text}
use Rattle.ws_titles.specs.Titles.{title_of}
use Rattle.wst_testing.specs.Outcomes.{below_line, outcome_words}
use Rattle.wst_testing.proofs.outcome.report_case.Goals as goal

pub returns-clause-text : goal.returns-clause-text
returns-clause-text c =
    let id : c.as_str.result.now ≡ string_bytes c.args.case.now.id = search rules in
    let named : c.as_str-2.result.now ≡ string_bytes c.args.case.now.id = search rules in
    let title : c.title_of.result.now ≡ title_of (string_bytes c.args.case.now.id) =
    c.title_of.ensures ∙ ap title_of named in
    let verdict : c.as_str-3.result.now ≡ outcome_words c.args.outcome.now = search rules in
    let below : c.as_str-4.result.now ≡ below_line c.args.outcome.now = search rules in
    c.in_ok-text.ensures ∙ (λ i. case_text c.args.report.now
    (record { id = id i; title = title i; verdict = verdict i; below = below i }))

pub returns-clause-score : goal.returns-clause-score
returns-clause-score c =
    let id : c.as_str.result.now ≡ string_bytes c.args.case.now.id = search rules in
    let named : c.as_str-2.result.now ≡ string_bytes c.args.case.now.id = search rules in
    let title : c.title_of.result.now ≡ title_of (string_bytes c.args.case.now.id) =
    c.title_of.ensures ∙ ap title_of named in
    let verdict : c.as_str-3.result.now ≡ outcome_words c.args.outcome.now = search rules in
    let below : c.as_str-4.result.now ≡ below_line c.args.outcome.now = search rules in
    λ i. record {
      is_failed = (c.in_ok-score.ensures.failed ∙ (λ j. told_failed c.args.report.now.known
          (record { id = id j; title = title j; verdict = verdict j; below = below j }))) i;
      change = (c.in_ok-score.ensures.change ∙ (λ j. change_on c.args.report.now.known
          (record { id = id j; title = title j; verdict = verdict j; below = below j }))) i;
      verdict = (c.in_ok-score.ensures.verdict ∙ (λ j. verdict_kept c.args.report.now
          (record { id = id j; title = title j; verdict = verdict j; below = below j }))) i;
    }
