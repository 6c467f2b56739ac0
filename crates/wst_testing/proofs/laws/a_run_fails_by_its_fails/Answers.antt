-- The words of each outcome tell whether it is a Fail.
use Rattle.std.proofs.Common.{◌≡◌, Bool, None, refl}
use Rattle.std.specs.declared.alloc.Global.{Global}
use Rattle.std.specs.declared.string.String.{String}
use Rattle.ws_scripts.specs.declared.script.Case.{Case}
use Rattle.ws_suite.specs.declared.verdict.Verdict.{Verdict}
use Rattle.ws_suite.specs.declared.verdict.Verdict.TheVariants as verdict
use Rattle.wst_testing.specs.Outcomes.{is_fail}
use Rattle.wst_testing.specs.Reporting.{fails_in}
use Rattle.wst_testing.specs.declared.outcome.Outcome.{Outcome}
use Rattle.wst_testing.specs.declared.outcome.Outcome.TheVariants.{HeadRefused, Judged, NoConnection, NotRun}
use Rattle.wst_testing.proofs.laws.a_run_fails_by_its_fails.Goals as goal

of_verdict : (is_junit has_summary : Bool) (case : Case) (told : Verdict) (below : String Global)
    → fails_in (record { is_junit = is_junit; has_summary = has_summary; known = None }) (case, Judged (record { verdict = told; below = below }))
    ≡ is_fail (Judged (record { verdict = told; below = below }))
of_verdict is_junit has_summary case verdict.Pass below = refl
of_verdict is_junit has_summary case (verdict.Loose why) below = refl
of_verdict is_junit has_summary case (verdict.Fail why) below = refl

of_outcome : (is_junit has_summary : Bool) (case : Case) (outcome : Outcome)
    → fails_in (record { is_junit = is_junit; has_summary = has_summary; known = None }) (case, outcome) ≡ is_fail outcome
of_outcome is_junit has_summary case (Judged told) = of_verdict is_junit has_summary case told.verdict told.below
of_outcome is_junit has_summary case (HeadRefused refusal) = refl
of_outcome is_junit has_summary case (NoConnection why) = refl
of_outcome is_junit has_summary case NotRun = refl

pub returns : goal.returns
returns c = λ is_junit has_summary test. of_outcome is_junit has_summary test.0 test.1
