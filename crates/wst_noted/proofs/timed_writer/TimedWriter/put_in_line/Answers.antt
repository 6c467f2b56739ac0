-- In a line these bytes are of the line.
use Rattle.wst_noted.proofs.TimedLemmas.{line_writes}
use Rattle.wst_noted.proofs.timed_writer.TimedWriter.put_in_line.Goals as goal

pub returns-clause-bytes : goal.returns-clause-bytes
returns-clause-bytes g c = line_writes g.K.LineTimes.first c.args.self.now.is_in_line (g.W.Write.contents c.args.self.now.writer)
    (g.W.Write.contents c.write.new.self) c.write.result c.args.bytes.now c.requires.in_line c.requires.line
    c.write.ensures.bytes
