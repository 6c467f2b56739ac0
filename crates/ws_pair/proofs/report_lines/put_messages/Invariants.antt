-- Message after message: the lines of the messages so far are put.
use Rattle.std.proofs.Common.{◌≡◌, ◌++◌, List, length}
use Rattle.std.specs.List.{flat_map}
use Rattle.ws_session.specs.declared.message.Message.{Message}
use Rattle.ws_pair.specs.ReportLines.{message_line}
use Rattle.ws_pair.specs.InnerPrinting.{PutsBehind}
use Rattle.ws_pair.proofs.report_lines.put_messages.Given as goal

-- the messages so far are told
abbrev pub invariant-loop-message : goal.invariant-loop-message
invariant-loop-message g l = (done : List Message) × (l.fn.messages.items ≡ done ++ l.walk)
    × PutsBehind g.W.Write.contents (flat_map (message_line l.fn.side) done) l.initial.room l.room l.initial.writer l.writer

abbrev pub decreases-loop-message : goal.decreases-loop-message
decreases-loop-message g l = length l.walk
