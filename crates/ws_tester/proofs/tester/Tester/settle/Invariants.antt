-- The turns so far have led to the state, and each turn that begins leaves fewer.
use Rattle.std.proofs.Common.{◌≡◌, length}
use Rattle.ws_tester.specs.Following.{ShowsTurns, Settles}
use Rattle.ws_tester.specs.RunStates.{RunState}
use Rattle.ws_tester.proofs.tester.Tester.settle.Given as goal

abbrev pub invariant-turns : goal.invariant-turns
invariant-turns l = record {
  shown : ShowsTurns l.fn.self → ShowsTurns l.self;
  settles : ShowsTurns l.fn.self → (now : RunState) → Settles l.self.run now → Settles l.fn.self.run now;
  going : l.self.run.ended ≡ l.fn.self.run.ended;
}

abbrev pub decreases-turns : goal.decreases-turns
decreases-turns l = length l.self.run.outgoing.later
