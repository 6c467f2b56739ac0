-- Step after step: what was found so far, or else the pongs that are left, tell whether one is early or unmatched.
use Rattle.std.proofs.Common.{◌≡◌, ◌||◌, length}
use Rattle.std.specs.List.{list_any}
use Rattle.ws_suite.specs.Matching.{matches_of}
use Rattle.ws_suite.specs.Verdicts.{is_before_match, is_unmatched}
use Rattle.ws_suite.proofs.judging.in_step.match_in_step.Given as goal

-- what is known so far, or what is left, decides
abbrev pub invariant-loop-step : goal.invariant-loop-step
invariant-loop-step l = record {
  early : (l.is_early || list_any is_before_match (matches_of l.due_left l.got_left))
      ≡ list_any is_before_match (matches_of l.fn.due l.fn.got);
  unmatched : list_any is_unmatched (matches_of l.due_left l.got_left)
      ≡ list_any is_unmatched (matches_of l.fn.due l.fn.got);
}

abbrev pub decreases-loop-step : goal.decreases-loop-step
decreases-loop-step l = length l.got_left
