-- The first match stands among those that are left.
use Rattle.std.proofs.Common.{◌≡◌, ◌+◌, drop, find, length}
use Rattle.ws_suite.specs.Kept.{reply_in}
use Rattle.ws_suite.specs.Matching.{after_match, has_payload_of}
use Rattle.ws_suite.proofs.evidence.kept.waiting.place_of_match.Given as goal

-- none that was passed has the payload
abbrev pub invariant-loop-one : goal.invariant-loop-one
invariant-loop-one l = record {
  count : l.passed + length l.left ≡ length l.fn.due;
  left : drop l.passed l.fn.due ≡ l.left;
  found : find (has_payload_of (reply_in l.pong)) l.fn.due ≡ find (has_payload_of (reply_in l.pong)) l.left;
  after : after_match (reply_in l.pong) l.fn.due ≡ after_match (reply_in l.pong) l.left;
}

abbrev pub decreases-loop-one : goal.decreases-loop-one
decreases-loop-one l = length l.left
