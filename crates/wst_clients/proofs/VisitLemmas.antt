-- One turn of clients under test: what is told of it.
use Rattle.std.proofs.Common.{◌≡◌, Option, ap, refl, subst, sym}
use Rattle.ws_paths.specs.declared.purpose.Purpose.{Purpose}
use Rattle.ws_scripts.specs.declared.expectation.Expectation.{Expectation}
use Rattle.ws_scripts.specs.declared.transcript.Transcript.{Transcript}
use Rattle.ws_wire.specs.declared.role.Role.TheVariants.{Client}
use Rattle.ws_frame.specs.declared.source.DataStyle.{DataStyle}
use Rattle.wst_commands.specs.Explaining.{IsJudgementOf}
use Rattle.wst_commands.specs.declared.explaining.Judgement.{Judgement}
use Rattle.wst_testing.specs.declared.outcome.Outcome.TheVariants.{Judged}
use Rattle.wst_clients.specs.VisitOutcomes.{IsVisitOutcome, outcome_notes}
use Rattle.wst_clients.specs.Visits.{begun_notes, case_for, case_notes}
use Rattle.wst_clients.specs.declared.visiting.Visit.{Visit}
use Rattle.wst_clients.specs.declared.visiting.Visit.TheVariants as visit
use Rattle.wst_clients.specs.declared.visiting.VisitRules.{VisitRules}
use Rattle.wst_clients.specs.declared.visit_outcome.VisitOutcome.{VisitOutcome}
use Rattle.wst_clients.specs.declared.visit_outcome.VisitOutcome.TheVariants.{Over, Ran}

-- of a case that was run: the verdict on the client
pub ran_told : (explains : Option DataStyle) (expected : Expectation) (came : Visit) (purpose : Purpose) (transcript : Transcript)
    (told : Judgement) → came ≡ visit.Ran purpose transcript → IsJudgementOf explains Client expected transcript told
    → IsVisitOutcome explains expected came (Ran purpose (Judged told))
ran_told explains expected came purpose transcript told is judged =
    subst (λ (v : Visit). IsVisitOutcome explains expected v (Ran purpose (Judged told))) (sym is)
    (refl, (told, refl, judged))

-- what is told as it begins is told of it
pub same_notes : (explains : Option DataStyle) (expected : Expectation) (rules : VisitRules) (came : Visit) (told : VisitOutcome)
    → IsVisitOutcome explains expected came told → begun_notes rules came ≡ outcome_notes rules told
same_notes explains expected rules visit.Over Over is = refl
same_notes explains expected rules visit.Over (Ran purpose outcome) is = absurd is
same_notes explains expected rules (visit.Ran p transcript) Over is = absurd is
same_notes explains expected rules (visit.Ran p transcript) (Ran purpose outcome) is =
    ap (λ (q : Purpose). case_notes rules.progress (case_for rules.cases.now q)) (sym is.0)
