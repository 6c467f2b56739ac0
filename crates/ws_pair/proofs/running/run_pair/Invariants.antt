-- Move after move: the moves so far lead, with their answers, to a link whose two ends are these endpoints.
use Rattle.std.proofs.Common.{take}
use Rattle.ws_pair.specs.Link.{Link, new_link}
use Rattle.ws_pair.specs.Moves.{Plays}
use Rattle.ws_pair.specs.Headline.{both_limits}
use Rattle.ws_pair.specs.InnerPlaying.{AreJoined}
use Rattle.ws_pair.proofs.running.run_pair.Given as goal

-- the moves so far lead to a link as whose ends the two endpoints stand
abbrev pub invariant-loop-next : goal.invariant-loop-next
invariant-loop-next l = (link : Link) × Plays (both_limits l.fn.client l.fn.server) new_link (take l.next-index l.moves) l.answers.items link × AreJoined (both_limits l.fn.client l.fn.server) link l.client l.server
