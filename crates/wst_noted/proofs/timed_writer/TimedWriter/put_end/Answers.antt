-- LF ends the line.
use Rattle.std.proofs.Common.{rules}
use Rattle.wst_noted.proofs.TimedLemmas.{feed_grows}
use Rattle.wst_noted.proofs.timed_writer.TimedWriter.put_end.Goals as goal

pub returns-then-taken-gt0-clause-bytes : goal.returns-then-taken-gt0-clause-bytes
returns-then-taken-gt0-clause-bytes g c = feed_grows g.K.LineTimes.first c.args.self.now.is_in_line
    (g.W.Write.contents c.args.self.now.writer) (g.W.Write.contents c.write.new.self) c.in_ok-taken.taken
    c.requires.in_line (search rules) (search rules)
