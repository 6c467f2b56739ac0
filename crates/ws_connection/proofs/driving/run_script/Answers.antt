-- The pieces of the script are the bytes of its turns.
use Rattle.std.proofs.Common.{◌≡◌, List, ℕ, subst}
use Rattle.std.specs.Prelude.{map}
use Rattle.std.specs.List.{concat}
use Rattle.ws_scripts.specs.Scripts.{turns_of}
use Rattle.ws_tester.specs.Following.{ScriptValue}
use Rattle.ws_tester.specs.RunStates.{PlanValue, plan_value}
use Rattle.ws_connection.specs.Probing.{Records, bytes_by_turn, plan_of}
use Rattle.ws_connection.proofs.ProbingLemmas.{between, bytes_are, pieces_have_bytes}
use Rattle.ws_connection.proofs.driving.run_script.Goals as goal

pub returns : goal.returns
returns g c =
    let case = c.args.case.now in
    let key = c.args.plan.key in
    let script = c.in_ok-script.script in
    let first = c.args.first.items in
    let transcript = c.in_ok-transcript.transcript in
    let run = between c.args.connection.now c.run_tester.new.connection in
    let has_bytes = pieces_have_bytes case.chop key (turns_of case.steps) script c.in_ok-script.ensures in
    let bytes : map (λ (pieces : List (List ℕ)). concat pieces) script ≡ bytes_by_turn case key =
    bytes_are case.chop key (turns_of case.steps) script c.in_ok-script.ensures in
    let all : ScriptValue = record {
      plan = plan_value c.test_plan.result;
      script = script;
      budget = c.allowance-budget.result;
      first = first;
    } in
    record {
      runs = subst (λ (l : List (List ℕ)). Records (plan_of c.args.plan) l first transcript run) bytes
          (subst (λ (plan : PlanValue). Records plan (map (λ (pieces : List (List ℕ)). concat pieces) script) first
          transcript run) c.test_plan.ensures (c.in_ok-transcript.ensures all has_bytes c.in_ok-tester.ensures.begins
          c.allowance-budget.ensures));
    }
