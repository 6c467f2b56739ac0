-- A run has begun: it rests, or has ended.
use Rattle.std.proofs.Common.{◌∙◌, ap, refl, sym}
use Rattle.ws_scripts.specs.declared.transcript.Ended.TheVariants.{Tester}
use Rattle.ws_tester.specs.RunStates.{RunState, plan_value}
use Rattle.ws_tester.specs.Following.{ScriptValue}
use Rattle.ws_tester.proofs.BeginLemmas.{begins_ended, begins_settled, first_shown}
use Rattle.ws_tester.proofs.ShownLemmas.{ended_shown}
use Rattle.ws_tester.proofs.tester.Tester.new.Goals as goal

pub returns-then-has_turns-clause-begins : goal.returns-then-has_turns-clause-begins
returns-then-has_turns-clause-begins c =
    let run : ScriptValue = record {
      plan = plan_value c.args.plan;
      script = c.args.script;
      budget = c.args.budget;
      first = c.args.first.items;
    } in
    let first = c.in_ok-tester.tester in
    let laws = c.in_ok-tester.ensures in
    begins_settled run first laws.state laws.grown laws.stands laws.before c.settle.new.self.run
    (sym c.has_turns-has_turns.ensures ∙ c.if-has_turns.true)
    (c.in_ok-settle.ensures.settles (first_shown run first laws.state laws.grown laws.stands laws.before)).0

pub returns-then-has_turns-clause-told : goal.returns-then-has_turns-clause-told
returns-then-has_turns-clause-told c =
    let run : ScriptValue = record {
      plan = plan_value c.args.plan;
      script = c.args.script;
      budget = c.args.budget;
      first = c.args.first.items;
    } in
    let first = c.in_ok-tester.tester in
    let laws = c.in_ok-tester.ensures in
    (refl, (c.in_ok-settle.ensures.settles (first_shown run first laws.state laws.grown laws.stands laws.before)).1)

pub returns-then-has_turns-clause-goes_on : goal.returns-then-has_turns-clause-goes_on
returns-then-has_turns-clause-goes_on c =
    c.in_ok-settle.ensures.goes_on (ap (λ (x : RunState). x.ended) c.in_ok-tester.ensures.state)

pub returns-clause-begins : goal.returns-clause-begins
returns-clause-begins c =
    let run : ScriptValue = record {
      plan = plan_value c.args.plan;
      script = c.args.script;
      budget = c.args.budget;
      first = c.args.first.items;
    } in
    let first = c.in_ok-tester.tester in
    let laws = c.in_ok-tester.ensures in
    begins_ended run first laws.state laws.grown laws.stands laws.before c.end_with.new.self.run
    (sym c.has_turns-has_turns.ensures ∙ c.if-has_turns.false) c.end_with.ensures.ended

pub returns-clause-told : goal.returns-clause-told
returns-clause-told c =
    let run : ScriptValue = record {
      plan = plan_value c.args.plan;
      script = c.args.script;
      budget = c.args.budget;
      first = c.args.first.items;
    } in
    let first = c.in_ok-tester.tester in
    let laws = c.in_ok-tester.ensures in (
      refl,
      ended_shown first c.end_with.new.self Tester c.end_with.ensures.ended c.end_with.ensures.seen
          c.end_with.ensures.standing c.end_with.ensures.before (first_shown run first laws.state laws.grown laws.stands laws.before),
    )
