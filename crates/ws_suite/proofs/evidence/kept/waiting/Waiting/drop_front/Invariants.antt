-- One after the other is taken away.
use Rattle.std.proofs.Common.{◌≡◌, ◌≤◌, ◌-◌, drop}
use Rattle.ws_suite.proofs.evidence.kept.waiting.Waiting.drop_front.Given as goal

abbrev pub invariant-loop-gone : goal.invariant-loop-gone
invariant-loop-gone l = record {
  within : l.gone ≤ l.count;
  left : l.self ≡ drop l.gone l.fn.self;
}

abbrev pub decreases-loop-gone : goal.decreases-loop-gone
decreases-loop-gone l = l.count - l.gone
