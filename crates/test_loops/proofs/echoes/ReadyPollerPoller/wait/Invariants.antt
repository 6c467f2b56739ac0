-- The time that was answered stays, and one wait less is left.
use Rattle.std.proofs.Common.{◌≡◌, ◌<◌}
use Rattle.test_loops.proofs.echoes.ReadyPollerPoller.wait.Given as goal

abbrev pub invariant-loop-one : goal.invariant-loop-one
invariant-loop-one l = record {
  time : l.self.answered ≡ l.fn.self.answered;
  left : l.self.left < l.fn.self.left;
}
