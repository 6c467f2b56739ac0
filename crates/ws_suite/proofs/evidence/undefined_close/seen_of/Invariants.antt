-- The turns so far were taken: with the bytes of those that are left, these are all.
use Rattle.std.proofs.Common.{◌≡◌, ◌++◌, ℕ, List, length}
use Rattle.std.specs.List.{concat}
use Rattle.ws_suite.specs.Evidence.{got_turns}
use Rattle.ws_suite.specs.InnerMarks.{HasSeenBytes}
use Rattle.ws_suite.proofs.evidence.undefined_close.seen_of.Given as goal

abbrev pub invariant-loop-turn : goal.invariant-loop-turn
invariant-loop-turn l = record {
  taken : (bytes : List ℕ) × (bytes ++ concat (got_turns l.rest) ≡ concat (got_turns l.past))
      × HasSeenBytes l.fn.role l.taken.session bytes l.taken.seen;
}

abbrev pub decreases-loop-turn : goal.decreases-loop-turn
decreases-loop-turn l = length l.rest
