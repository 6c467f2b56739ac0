-- Reply after reply: the last pong of all is the last of what is left, or else the one that was found.
use Rattle.std.proofs.Common.{◌≡◌, None, length}
use Rattle.std.specs.List.{last_or}
use Rattle.ws_suite.specs.LastPings.{lent_pong}
use Rattle.ws_suite.specs.Matching.{pong_replies}
use Rattle.ws_suite.proofs.evidence.last_ping.last_pong_of.Given as goal

abbrev pub invariant-loop-reply : goal.invariant-loop-reply
invariant-loop-reply l = last_or None (pong_replies l.replies) ≡ last_or (lent_pong l.last) (pong_replies l.left)

abbrev pub decreases-loop-reply : goal.decreases-loop-reply
decreases-loop-reply l = length l.left
