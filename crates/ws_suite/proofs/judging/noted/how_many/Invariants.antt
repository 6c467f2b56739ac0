-- Pong after pong: those that were counted and those that are left are all.
use Rattle.std.proofs.Common.{◌≡◌, ◌+◌, length}
use Rattle.ws_suite.proofs.judging.noted.how_many.Given as goal

abbrev pub invariant-loop-pong : goal.invariant-loop-pong
invariant-loop-pong l = l.count + length l.left ≡ length l.fn.pongs

abbrev pub decreases-loop-pong : goal.decreases-loop-pong
decreases-loop-pong l = length l.left
