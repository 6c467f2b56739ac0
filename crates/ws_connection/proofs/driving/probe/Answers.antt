-- The head of the answer was whole, and then its script was run, or it was refused; or there was none.
use Rattle.std.specs.Prelude.{Some}
use Rattle.ws_connection.specs.Probing.{bytes_by_turn, plan_asked}
use Rattle.ws_connection.specs.UpgradeRequests.{request_value}
use Rattle.ws_connection.proofs.OpeningLemmas.{begun, no_answer_so, refuses_so, runs_behind}
use Rattle.ws_connection.proofs.driving.probe.Goals as goal

pub run_tester-requires-clause-told : goal.run_tester-requires-clause-told
run_tester-requires-clause-told g c = (begun (plan_asked c.args.asked.now)
    (bytes_by_turn c.args.case.now (Some c.args.asked.now.key)) (request_value c.args.asked.now.request)
    c.in_ok-stage.stage c.args.connection.now c.opened_by.new.connection c.in_ok-stage.ensures c.in-Running.tester
    c.in-Running.is).was_told

pub run_tester-requires-clause-goes_on : goal.run_tester-requires-clause-goes_on
run_tester-requires-clause-goes_on g c = (begun (plan_asked c.args.asked.now)
    (bytes_by_turn c.args.case.now (Some c.args.asked.now.key)) (request_value c.args.asked.now.request)
    c.in_ok-stage.stage c.args.connection.now c.opened_by.new.connection c.in_ok-stage.ensures c.in-Running.tester
    c.in-Running.is).goes_on

pub returns-in_ok-transcript-in-Running : goal.returns-in_ok-transcript-in-Running
returns-in_ok-transcript-in-Running g c = record {
  probes = runs_behind (plan_asked c.args.asked.now)
      (bytes_by_turn c.args.case.now (Some c.args.asked.now.key)) (request_value c.args.asked.now.request)
      c.in_ok-stage.stage c.args.connection.now c.opened_by.new.connection c.in_ok-stage.ensures c.in-Running.tester
      c.in-Running.is c.in_ok-transcript-in-Running.transcript c.run_tester.new.connection
      c.in_ok-transcript-in-Running.ensures;
}

pub returns-in-Refused : goal.returns-in-Refused
returns-in-Refused g c = record {
  probes = refuses_so (plan_asked c.args.asked.now)
      (bytes_by_turn c.args.case.now (Some c.args.asked.now.key)) (request_value c.args.asked.now.request)
      c.in_ok-stage.stage c.args.connection.now c.opened_by.new.connection c.in_ok-stage.ensures c.in-Refused.refusal
      c.requires.new c.in-Refused.is;
}

pub returns-in-Lost : goal.returns-in-Lost
returns-in-Lost g c = record {
  probes = no_answer_so (plan_asked c.args.asked.now)
      (bytes_by_turn c.args.case.now (Some c.args.asked.now.key)) (request_value c.args.asked.now.request)
      c.in_ok-stage.stage c.args.connection.now c.opened_by.new.connection c.in_ok-stage.ensures c.in-Lost.is;
}
