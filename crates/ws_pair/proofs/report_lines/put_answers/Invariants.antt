-- Move after move: the lines of the answers so far are put.
use Rattle.std.proofs.Common.{take}
use Rattle.std.specs.List.{flat_map}
use Rattle.ws_pair.specs.ReportLines.{answer_line}
use Rattle.ws_pair.specs.InnerPrinting.{PutsBehind}
use Rattle.ws_pair.proofs.report_lines.put_answers.Given as goal

-- the answers so far are told
abbrev pub invariant-loop-answer : goal.invariant-loop-answer
invariant-loop-answer g l =
    PutsBehind g.W.Write.contents (flat_map answer_line (take l.answer-index l.answers)) l.initial.room l.room l.initial.writer l.writer
