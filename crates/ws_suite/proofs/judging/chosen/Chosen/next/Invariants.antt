-- What is passed over is not wanted.
use Rattle.std.proofs.Common.{◌≡◌, length}
use Rattle.ws_suite.specs.InnerChosen.{wanted_among}
use Rattle.ws_suite.proofs.judging.chosen.Chosen.next.Given as goal

-- nothing that is wanted was passed
abbrev pub invariant-loop-reply : goal.invariant-loop-reply
invariant-loop-reply l = wanted_among l.self-inside.wanted l.self-inside.walk ≡ l.fn.self

abbrev pub decreases-loop-reply : goal.decreases-loop-reply
decreases-loop-reply l = length l.self-inside.walk
