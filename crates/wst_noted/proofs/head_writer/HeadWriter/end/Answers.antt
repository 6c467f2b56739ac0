-- The lines of heads stand before what was written.
use Rattle.wst_noted.specs.HeadWriting.{behind_heads}
use Rattle.wst_noted.proofs.HeadLemmas.{ends_so}
use Rattle.wst_noted.proofs.head_writer.HeadWriter.end.Goals as goal

pub returns : goal.returns
returns g c = λ bytes is. ends_so c.put_heads-ended.new.self.written (behind_heads g.W.Write.contents c.args.self)
    (g.W.Write.contents c.put_heads-ended.new.self.writer) bytes c.put_heads-ended.ensures.kept is
