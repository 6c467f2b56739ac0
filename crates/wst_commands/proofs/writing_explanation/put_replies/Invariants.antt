-- Reply after reply: the lines of the replies so far were written or wait.
use Rattle.std.proofs.Common.{◌≡◌, ◌++◌, List, false, length}
use Rattle.std.specs.List.{flat_map}
use Rattle.ws_frame.specs.Watching.{has_failed, inner_of}
use Rattle.ws_suite.specs.declared.evidence.InTurn.{InTurn}
use Rattle.ws_suite.specs.declared.evidence.Reply.{Reply}
use Rattle.ws_rooms.proofs.Waiting.{Stands}
use Rattle.ws_frame.specs.declared.source.DataStyle.TheVariants.{Hex}
use Rattle.wst_commands.specs.Explaining.{reply_line}
use Rattle.wst_commands.proofs.writing_explanation.put_replies.Given as goal

-- no write has failed, and the lines of the replies so far stand behind what waited
abbrev pub invariant-loop-reply : goal.invariant-loop-reply
invariant-loop-reply g l = (has_failed l.writer ≡ false)
    × ((done : List (InTurn Reply)) × (l.fn.replies ≡ done ++ l.walk)
    × Stands (l.initial.room ++ flat_map (reply_line Hex l.fn.side) done) l.room
    (g.W.Write.contents (inner_of l.initial.writer)) (g.W.Write.contents (inner_of l.writer)))

abbrev pub decreases-loop-reply : goal.decreases-loop-reply
decreases-loop-reply g l = length l.walk
