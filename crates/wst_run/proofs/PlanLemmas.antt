-- The cases that the words of `test` stand for, and what is told while they are run.
use Rattle.std.proofs.Common.{◌≡◌, ◌∙◌, ◌<◌, ℕ, Bool, Option, Result, inl, inr, not, true, false, List, [], ◌∷◌, ap, arith}
use Rattle.std.proofs.Common.{refl, sym, length}
use Rattle.std.specs.Borrow.{Bor}
use Rattle.std.specs.List.{All}
use Rattle.ws_scripts.specs.Scripts.{CanBeRun}
use Rattle.ws_scripts.specs.declared.script.Case.{Case}
use Rattle.wst_commands.specs.GivenCases.{AreCasesFor, is_glob, names_of, or_all}
use Rattle.wst_run.specs.Send.{RefusesSend}
use Rattle.wst_run.specs.Test.{is_one_case}
use Rattle.wst_testing.specs.RunPlans.{CanNotRun}
use Rattle.wst_testing.specs.declared.run_plans.Refusal.{Refusal}
use Rattle.wst_testing.specs.declared.run_plans.Refusal.TheVariants as refusal
use Rattle.wst_words.specs.declared.send.SendOptions.{SendOptions}
use Rattle.ws_frame.specs.Devices.{Device}
use Rattle.wst_commands.specs.declared.exit.Exit.{Exit}
use Rattle.wst_commands.specs.declared.fault.Fault.{Fault}
use Rattle.ws_reports.specs.Reports.{ReportValue}
use Rattle.wst_run.specs.Test.{CanBeTested, CarriesOut, ReportsCases}
use Rattle.wst_sockets.specs.declared.meeting.Meeting.{Meeting}
use Rattle.wst_run.specs.declared.test.TestPlan.{TestPlan}
use Rattle.wst_commands.proofs.CaseLemmas.{one_case}
use Rattle.wst_testing.proofs.NoteLemmas.{each_on}

-- ---- the cases

-- the cases that are asked for can be run
pub cases_run : (words : List (List ℕ)) (cases : List Case) → AreCasesFor words cases → All CanBeRun cases
cases_run words cases are = are.have.can_be_run

-- twice not
not_not : (b : Bool) → not (not b) ≡ b
not_not true = refl
not_not false = refl

-- where one is asked for there is one
pub cases_counted : (ids : List (Bor (List ℕ))) (cases : List Case) → is_one_case (names_of ids) ≡ true
    → AreCasesFor (or_all (names_of ids)) cases → length cases ≡ 1
cases_counted [] cases one are = absurd (cc)
cases_counted (id ∷ []) cases one are =
    one_case id.now cases are (sym (not_not (is_glob id.now)) ∙ ap (λ (b : Bool). not b) one)
cases_counted (id ∷ next ∷ ids) cases one are = absurd (cc)

-- a capture runs alone
pub captures_alone : (plan : TestPlan) → CanBeTested plan → 1 < plan.at_once → plan.capture ≡ false
captures_alone plan can several = by plan.capture (λ is. omega (arith, several, can.2 is))
  where
    by : (b : Bool) → (b ≡ true → ⊥) → b ≡ false
    by true not_so = absurd (not_so refl)
    by false not_so = refl

-- what was told while a plan was carried out, where the fault output may have failed since
pub carries_on : (Meets : Case → Meeting → Type 0) (plan : TestPlan) (report : ReportValue) (ended : Result Exit Fault)
    (output : Device) (f g : Bool) (old new : Option (List ℕ)) → (f ≡ true → g ≡ true)
    → CarriesOut Meets plan report ended output (record { failed = f; old = old; new = new })
    → CarriesOut Meets plan report ended output (record { failed = g; old = old; new = new })
carries_on Meets plan report ended output f g old new still (inl (case, is, one, (notes, captured, told))) =
    inl (case, is, one, (notes, captured, each_on notes f g old new still told))
carries_on Meets plan report ended output f g old new still (inr (is, inl done)) =
    let (notes, tested, told) = done.runs in
    let on : ReportsCases Meets plan report ended output (record { failed = g; old = old; new = new }) = record {
      begun = done.begun;
      started = done.started;
      failed = done.failed;
      behind = done.behind;
      runs = (notes, tested, each_on notes f g old new still told);
      closes = done.closes;
    } in
    inr (is, inl on)
carries_on Meets plan report ended output f g old new still (inr (is, inr none)) = inr (is, inr none)

-- ---- what is sent

-- what can't be run isn't sent
pub send_refused : (options : SendOptions) (why : Refusal) → CanNotRun options.run why → RefusesSend options why
send_refused options refusal.WaitForServer is = is
send_refused options refusal.BadProtocols is = is
send_refused options refusal.BadHeader is = is
send_refused options refusal.BadTimeout is = is
send_refused options refusal.TimeoutWithUnit is = is
send_refused options refusal.BadWait is = is
send_refused options refusal.WaitWithUnit is = is
send_refused options refusal.BadDeadline is = is
send_refused options refusal.DeadlineWithUnit is = is
send_refused options refusal.BadKey is = is
send_refused options (refusal.BadAddress given) is = is
send_refused options refusal.BadConnect is = is
send_refused options refusal.CaptureInReport is = is
send_refused options refusal.TimeInMemory is = absurd is
send_refused options refusal.NotOneCase is = is
send_refused options refusal.BadMaxFail is = is
send_refused options refusal.AtOnceInTurn is = is
send_refused options refusal.BadAtOnce is = is
send_refused options (refusal.NoCases why) is = is
