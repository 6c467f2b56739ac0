-- The event decides, or the table.
use Rattle.std.proofs.Common.{◌∙◌, [], sym, subst}
use Rattle.std.specs.Prelude.{Option}
use Rattle.ws_tester.specs.Following.{LeadsOnBy}
use Rattle.ws_tester.specs.declared.outcome.Outcome.{Outcome}
use Rattle.ws_tester.proofs.GoingLemmas.{rests_unsent}
use Rattle.ws_tester.proofs.tester.Tester.go_on.Goals as goal

pub returns-in_ok-obey-in-Some-clause-goes : goal.returns-in_ok-obey-in-Some-clause-goes
returns-in_ok-obey-in-Some-clause-goes c = λ shown bytes lines.
    let obeyed = c.in_ok-obey-in-Some.ensures.obeys shown in (
      subst (λ (o : Option Outcome). LeadsOnBy o c.args.self.now.run c.obey.new.self.run)
          (sym c.in-Some.is ∙ c.outcome_by.ensures bytes lines) obeyed.0,
      obeyed.1,
    )

pub returns-in_ok-obey-in-Some-clause-next : goal.returns-in_ok-obey-in-Some-clause-next
returns-in_ok-obey-in-Some-clause-next c = λ going. c.in_ok-obey-in-Some.ensures.next going
    (λ rests. rests_unsent c.args.self.now.run [] [] c.args.event c.in-Some.outcome
    (sym c.in-Some.is ∙ c.outcome_by.ensures [] []) rests)

pub returns-in_ok-settle-in-None-clause-goes : goal.returns-in_ok-settle-in-None-clause-goes
returns-in_ok-settle-in-None-clause-goes c = λ shown bytes lines.
    let settled = c.in_ok-settle-in-None.ensures.settles shown in (
      subst (λ (o : Option Outcome). LeadsOnBy o c.args.self.now.run c.settle.new.self.run)
          (sym c.in-None.is ∙ c.outcome_by.ensures bytes lines) settled.0,
      settled.1,
    )

pub returns-in_ok-settle-in-None-clause-next : goal.returns-in_ok-settle-in-None-clause-next
returns-in_ok-settle-in-None-clause-next c = λ going. c.in_ok-settle-in-None.ensures.goes_on going
