-- Pong after pong: what was found so far, or else the pongs that are left, tell whether one is early or unmatched.
use Rattle.std.proofs.Common.{◌≡◌, ◌≤◌, ◌||◌, drop, length}
use Rattle.std.specs.List.{list_any}
use Rattle.ws_suite.specs.Matching.{matches_of}
use Rattle.ws_suite.specs.Verdicts.{is_before_match, is_unmatched}
use Rattle.ws_suite.proofs.judging.pongs.match_others.Given as goal

-- what is known so far, or what is left, decides
abbrev pub invariant-loop-next : goal.invariant-loop-next
invariant-loop-next l = record {
  within : l.next ≤ length l.fn.due;
  left : drop l.next l.fn.due ≡ l.left;
  early : (l.is_early || list_any is_before_match (matches_of l.left l.got_left))
      ≡ list_any is_before_match (matches_of l.fn.due l.fn.got);
  unmatched : (l.is_unmatched || list_any is_unmatched (matches_of l.left l.got_left))
      ≡ list_any is_unmatched (matches_of l.fn.due l.fn.got);
}

abbrev pub decreases-loop-next : goal.decreases-loop-next
decreases-loop-next l = length l.got_left
