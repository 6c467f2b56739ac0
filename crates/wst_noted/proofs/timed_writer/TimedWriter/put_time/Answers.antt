-- The time is no line.
use Rattle.std.proofs.Common.{rules, subst, sym}
use Rattle.wst_noted.specs.TimedLines.{IsTime}
use Rattle.wst_noted.proofs.TimedLemmas.{time_begun, time_whole}
use Rattle.wst_noted.proofs.timed_writer.TimedWriter.put_time.Goals as goal

pub returns-then-write_most-len-clause-kept : goal.returns-then-write_most-len-clause-kept
returns-then-write_most-len-clause-kept g c = time_begun g.K.LineTimes.first c.args.self.now.is_in_line
    (g.W.Write.contents c.args.self.now.writer) (g.W.Write.contents c.write_most.new.writer) c.as_slice.result.now
    c.write_most.result c.if-self.false (subst IsTime (sym c.as_slice.ensures.value) c.in_ok-time.ensures)
    (search rules) c.write_most.ensures.written

pub returns-clause-kept : goal.returns-clause-kept
returns-clause-kept g c = time_whole g.K.LineTimes.first c.args.self.now.is_in_line
    (g.W.Write.contents c.args.self.now.writer) (g.W.Write.contents c.write_most.new.writer) c.as_slice.result.now
    c.write_most.result c.if-self.false (subst IsTime (sym c.as_slice.ensures.value) c.in_ok-time.ensures)
    (search rules) c.write_most.ensures.written
