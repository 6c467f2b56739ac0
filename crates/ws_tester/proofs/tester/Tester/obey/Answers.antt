-- What is obeyed is what the outcome says.
use Rattle.std.proofs.Common.{◌∙◌, ap, refl, sym, subst}
use Rattle.ws_tester.specs.Following.{Obeys, Settles}
use Rattle.ws_tester.specs.RunStates.{RunState}
use Rattle.ws_tester.specs.declared.outcome.Outcome.{Outcome}
use Rattle.ws_tester.proofs.GoingLemmas.{ended_next}
use Rattle.ws_tester.proofs.OutcomeLemmas.{unsent_wants}
use Rattle.ws_tester.proofs.ShownLemmas.{ended_shown, next_shown}
use Rattle.ws_tester.proofs.tester.Tester.obey.Goals as goal

pub returns-in-Rests-clause-obeys : goal.returns-in-Rests-clause-obeys
returns-in-Rests-clause-obeys c = λ shown.
    (subst (λ (o : Outcome). Obeys o c.args.self.now.run c.args.self.now.run) (sym c.in-Rests.is) refl, shown)

pub returns-in-Rests-clause-next : goal.returns-in-Rests-clause-next
returns-in-Rests-clause-next c = λ going unsent. unsent_wants c.args.self.now.run going (unsent c.in-Rests.is)

pub returns-in_ok-settle-in-Next-clause-obeys : goal.returns-in_ok-settle-in-Next-clause-obeys
returns-in_ok-settle-in-Next-clause-obeys c = λ shown.
    let begun = next_shown c.args.self.now c.begin_next_turn.new.self c.in_ok-begin_next_turn-in-Next.ensures.next
    c.in_ok-begin_next_turn-in-Next.ensures.standing c.in_ok-begin_next_turn-in-Next.ensures.before
    (c.in_ok-begin_next_turn-in-Next.ensures.grown c.args.self.now.run.plan.tested shown.grown) shown in
    let settled = c.in_ok-settle-in-Next.ensures.settles begun in (
      subst (λ (o : Outcome). Obeys o c.args.self.now.run c.settle.new.self.run) (sym c.in-Next.is)
          (subst (λ (x : RunState). Settles x c.settle.new.self.run) c.in_ok-begin_next_turn-in-Next.ensures.next settled.0),
      settled.1,
    )

pub returns-in_ok-settle-in-Next-clause-next : goal.returns-in_ok-settle-in-Next-clause-next
returns-in_ok-settle-in-Next-clause-next c = λ going unsent. c.in_ok-settle-in-Next.ensures.goes_on
    (ap (λ (x : RunState). x.ended) c.in_ok-begin_next_turn-in-Next.ensures.next ∙ going)

pub returns-in-Ends-clause-obeys : goal.returns-in-Ends-clause-obeys
returns-in-Ends-clause-obeys c = λ shown. (
  subst (λ (o : Outcome). Obeys o c.args.self.now.run c.end_with.new.self.run) (sym c.in-Ends.is)
      c.end_with.ensures.ended,
  ended_shown c.args.self.now c.end_with.new.self c.in-Ends.how c.end_with.ensures.ended c.end_with.ensures.seen
      c.end_with.ensures.standing c.end_with.ensures.before shown,
)

pub returns-in-Ends-clause-next : goal.returns-in-Ends-clause-next
returns-in-Ends-clause-next c = λ going unsent.
    ended_next c.end_with.new.self.run c.args.self.now.run c.in-Ends.how c.end_with.ensures.ended
