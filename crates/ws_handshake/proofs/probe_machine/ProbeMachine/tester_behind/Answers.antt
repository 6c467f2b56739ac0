-- The tester begins with the script that was asked, which is taken out of the machine.
use Rattle.std.proofs.Common.{List, subst}
use Rattle.ws_tester.specs.Following.{BeginsRun}
use Rattle.ws_tester.specs.Outgoings.{Pieces}
use Rattle.ws_tester.specs.RunStates.{plan_value}
use Rattle.ws_handshake.specs.Probes.{ProbeValue, script_behind}
use Rattle.ws_handshake.proofs.probe_machine.ProbeMachine.tester_behind.Goals as goal

pub returns-clause-begins : goal.returns-clause-begins
returns-clause-begins c = subst
    (λ (x : ProbeValue). BeginsRun (script_behind x c.args.first.items) c.in_ok-tester.tester.run) c.self.view_is
    (subst (λ (script : List Pieces). BeginsRun (record {
      plan = plan_value c.self.inside.plan.test;
      script = script;
      budget = c.self.inside.plan.budget;
      first = c.args.first.items;
    }) c.in_ok-tester.tester.run) c.replace-script.ensures.value c.in_ok-tester.ensures.begins)
