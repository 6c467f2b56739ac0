-- Reply after reply: what is joined_payloads so far, and what is left, make all.
use Rattle.std.proofs.Common.{◌≡◌, ◌++◌, filter, length}
use Rattle.ws_suite.specs.InnerMarks.{is_pong_before, joined_payloads}
use Rattle.ws_suite.proofs.evidence.kept.pong_payloads.Given as goal

abbrev pub invariant-loop-reply : goal.invariant-loop-reply
invariant-loop-reply l = l.payloads.items ++ joined_payloads (filter (is_pong_before l.fn.end) l.left)
    ≡ joined_payloads (filter (is_pong_before l.fn.end) l.fn.replies)

abbrev pub decreases-loop-reply : goal.decreases-loop-reply
decreases-loop-reply l = length l.left
