-- The turns so far were taken and told, and none of them has ended the run.
use Rattle.std.proofs.Common.{◌≡◌, ◌-◌, ◌<◌, ◌≤◌, false, length}
use Rattle.ws_frame.specs.Devices.{watched}
use Rattle.ws_frame.specs.Watching.{has_failed, inner_of}
use Rattle.wst_commands.specs.Devices.{StaysFailed}
use Rattle.wst_clients.proofs.ClientLemmas.{HasVisitedSo}
use Rattle.wst_clients.proofs.testing_clients.run_visits.Given as goal

abbrev pub invariant-loop-visited : goal.invariant-loop-visited
invariant-loop-visited g l = record {
  works : has_failed l.writer ≡ false;
  bound : l.visited ≤ 4611686018427387904;
  fits : length l.rules.cases.now < 4294967296;
  run : HasVisitedSo (record { visits = g.C.TestedClients.visits; passes = g.C.TestedClients.passes }) l.rules l.visited l.standing l.score
      (g.W.Write.contents (inner_of l.initial.writer)) (g.W.Write.contents (inner_of l.writer))
      (watched g.F.Write.contents l.initial.faults l.faults);
  are : g.C.TestedClients.are l.rules l.clients;
  still : StaysFailed l.initial.faults l.faults;
}

abbrev pub decreases-loop-visited : goal.decreases-loop-visited
decreases-loop-visited g l = 4611686018427387904 - l.visited
