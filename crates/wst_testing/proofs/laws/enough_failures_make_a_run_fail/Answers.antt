-- One failure at least is one by which a run fails.
use Rattle.std.proofs.Common.{◌≡◌, ◌&&◌, ◌||◌, ℕ, Bool, true, false, not, List, [], ◌∷◌, Option, Some, None, refl}
use Rattle.std.proofs.Common.{filter, if◌then◌else◌, length}
use Rattle.std.specs.Prelude.{nat_lt}
use Rattle.std.specs.List.{list_any}
use Rattle.ws_reports.specs.Reports.{ReportValue}
use Rattle.ws_scripts.specs.declared.script.Case.{Case}
use Rattle.wst_testing.specs.Failures.{IsEnoughBehind}
use Rattle.wst_testing.specs.Outcomes.{is_fail}
use Rattle.wst_testing.specs.Reporting.{fails_in, is_failure, score_of}
use Rattle.wst_testing.specs.declared.outcome.Outcome.{Outcome}
use Rattle.wst_testing.proofs.laws.enough_failures_make_a_run_fail.Goals as goal

left_holds : (a b : Bool) → (a && b) ≡ true → a ≡ true
left_holds true b is = refl
left_holds false b is = is

-- one more case: it is counted only where the run fails by it
one_more : {X : Type 0} (a b : Bool) (x : X) (kept : List X) (rest : Bool)
    → (nat_lt 0 (length kept) ≡ true → rest ≡ true)
    → nat_lt 0 (length (if a && b then x ∷ kept else kept)) ≡ true → (b || rest) ≡ true
one_more a true x kept rest more is = refl
one_more true false x kept rest more is = more is
one_more false false x kept rest more is = more is

some_fails : (report : ReportValue) (tests : List (Case × Outcome))
    → nat_lt 0 (length (filter (is_failure report) tests)) ≡ true → list_any (fails_in report) tests ≡ true
some_fails report [] is = is
some_fails report (test ∷ tests) is = one_more (is_fail test.1) (fails_in report test) test
    (filter (is_failure report) tests) (list_any (fails_in report) tests) (some_fails report tests) is

of_enough : (most : Option ℕ) (report : ReportValue) (tests : List (Case × Outcome)) → IsEnoughBehind most report tests
    → (score_of report tests).is_failed ≡ true
of_enough None report tests is = absurd (cc)
of_enough (Some most) report tests is = some_fails report tests
    (left_holds (nat_lt 0 (length (filter (is_failure report) tests)))
    (not (nat_lt (length (filter (is_failure report) tests)) most)) is)

pub returns : goal.returns
returns c = λ most report tests is. of_enough most report tests is
