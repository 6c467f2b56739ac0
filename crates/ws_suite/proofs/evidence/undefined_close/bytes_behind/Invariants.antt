-- The bytes of the turns so far from the place on, and how many of those before it come later.
use Rattle.std.proofs.Common.{◌≡◌, ◌-◌, ◌++◌, ℕ, List, drop, length}
use Rattle.std.specs.List.{concat}
use Rattle.ws_suite.specs.Evidence.{got_turns}
use Rattle.ws_suite.proofs.evidence.undefined_close.bytes_behind.Given as goal

abbrev pub invariant-loop-turn : goal.invariant-loop-turn
invariant-loop-turn l = record {
  put : (before : List ℕ) × (before ++ concat (got_turns l.rest) ≡ concat (got_turns l.past))
      × (l.bytes.items ≡ drop l.place before) × (l.left ≡ l.place - length before);
}

abbrev pub decreases-loop-turn : goal.decreases-loop-turn
decreases-loop-turn l = length l.rest
