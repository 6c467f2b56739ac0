-- A wait that goes on keeps the time that was answered last, and its list its length.
use Rattle.std.proofs.Common.{◌≡◌, ◌<◌, length}
use Rattle.wst_network.proofs.system.SystemPollerPoller.wait.Given as goal

abbrev pub invariant-loop : goal.invariant-loop
invariant-loop g l = record {
  len : length l.found ≡ length l.fn.found;
  time : l.self.time ≡ l.fn.self.time;
  left : l.self.left < l.fn.self.left;
}
