-- The last lines are written, if there are any.
use Rattle.wst_testing.proofs.OutputLemmas.{wrote_last, wrote_no_last}
use Rattle.wst_testing.proofs.line_output.LineOutput.write_last.Goals as goal

pub returns-then-is_empty-clause-written : goal.returns-then-is_empty-clause-written
returns-then-is_empty-clause-written g c = wrote_no_last g.W.Write.contents c.args.self.now.writer.now c.args.last.now
    c.is_empty.ensures c.if-is_empty.true

pub returns-clause-written : goal.returns-clause-written
returns-clause-written g c = wrote_last g.W.Write.contents c.args.self.now.writer.now c.write_lines.new.writer
    c.args.last.now c.in_ok-write_lines.ensures
