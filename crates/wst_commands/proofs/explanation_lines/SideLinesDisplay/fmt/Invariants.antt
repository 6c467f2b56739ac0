-- Reply after reply: the lines of the replies so far are written, and fewer are left.
use Rattle.std.proofs.Common.{◌≡◌, ◌++◌, List, length}
use Rattle.std.specs.Fmt.{HasWritten, IsPlainFormatter}
use Rattle.std.specs.List.{flat_map}
use Rattle.ws_suite.specs.declared.evidence.InTurn.{InTurn}
use Rattle.ws_suite.specs.declared.evidence.Reply.{Reply}
use Rattle.wst_commands.specs.Explaining.{reply_line}
use Rattle.wst_commands.proofs.explanation_lines.SideLinesDisplay.fmt.Given as goal

-- the lines of the replies so far are written
abbrev pub invariant-loop-reply : goal.invariant-loop-reply
invariant-loop-reply g l = IsPlainFormatter l.initial.f → (done : List (InTurn Reply)) × (l.fn.self.direction.now.replies ≡ done ++ l.replies)
    × HasWritten g.W.Write.write_str_gives l.initial.f (flat_map (reply_line l.fn.self.style l.fn.self.side) done) l.f

abbrev pub decreases-loop-reply : goal.decreases-loop-reply
decreases-loop-reply g l = length l.replies
