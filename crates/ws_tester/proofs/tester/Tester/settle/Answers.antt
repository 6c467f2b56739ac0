-- A run rests, or ends, or its next turn begins, as the table has it.
use Rattle.std.proofs.Common.{◌∙◌, ap, sym}
use Rattle.ws_tester.specs.RunStates.{RunState}
use Rattle.ws_tester.proofs.GoingLemmas.{ended_next, ends_settled, fewer_left, next_settled, rests_settled}
use Rattle.ws_tester.proofs.OutcomeLemmas.{rests_wants}
use Rattle.ws_tester.proofs.ShownLemmas.{ended_shown, next_shown}
use Rattle.ws_tester.proofs.tester.Tester.settle.Goals as goal

pub turns-preserved : goal.turns-preserved
turns-preserved c = record {
  shown = λ h. next_shown c.turns.self c.begin_next_turn.new.self c.in_ok-begin_next_turn-in-Next.ensures.next
      c.in_ok-begin_next_turn-in-Next.ensures.standing c.in_ok-begin_next_turn-in-Next.ensures.before
      (c.in_ok-begin_next_turn-in-Next.ensures.grown c.turns.self.run.plan.tested (c.turns.invariant.shown h).grown)
      (c.turns.invariant.shown h);
  settles = λ h now rest. c.turns.invariant.settles h now (next_settled c.turns.self c.begin_next_turn.new.self now
      c.facts.result c.outcome.result c.facts.ensures c.outcome.ensures c.in-Next.is
      c.in_ok-begin_next_turn-in-Next.ensures.next (c.turns.invariant.shown h) rest);
  going = ap (λ (x : RunState). x.ended) c.in_ok-begin_next_turn-in-Next.ensures.next ∙ c.turns.invariant.going;
}

pub turns-smaller : goal.turns-smaller
turns-smaller c = fewer_left c.turns.self.run c.facts.result c.outcome.result c.begin_next_turn.new.self.run
    c.outcome.ensures c.in-Next.is c.in_ok-begin_next_turn-in-Next.ensures.next

pub returns-in-Rests-clause-settles : goal.returns-in-Rests-clause-settles
returns-in-Rests-clause-settles c = λ h. (
  c.turns.invariant.settles h c.turns.self.run (rests_settled c.turns.self c.facts.result c.outcome.result
      c.facts.ensures c.outcome.ensures c.in-Rests.is (c.turns.invariant.shown h)),
  c.turns.invariant.shown h,
)

pub returns-in-Rests-clause-goes_on : goal.returns-in-Rests-clause-goes_on
returns-in-Rests-clause-goes_on c = λ going. rests_wants c.turns.self.run c.facts.result
    (c.turns.invariant.going ∙ going) (sym c.outcome.ensures ∙ c.in-Rests.is)

pub returns-in-Ends-clause-settles : goal.returns-in-Ends-clause-settles
returns-in-Ends-clause-settles c = λ h. (
  c.turns.invariant.settles h c.end_with.new.self.run (ends_settled c.turns.self c.end_with.new.self c.facts.result
      c.outcome.result c.in-Ends.how c.facts.ensures c.outcome.ensures c.in-Ends.is c.end_with.ensures.ended
      (c.turns.invariant.shown h)),
  ended_shown c.turns.self c.end_with.new.self c.in-Ends.how c.end_with.ensures.ended c.end_with.ensures.seen
      c.end_with.ensures.standing c.end_with.ensures.before (c.turns.invariant.shown h),
)

pub returns-in-Ends-clause-goes_on : goal.returns-in-Ends-clause-goes_on
returns-in-Ends-clause-goes_on c = λ going.
    ended_next c.end_with.new.self.run c.turns.self.run c.in-Ends.how c.end_with.ensures.ended
