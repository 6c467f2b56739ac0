-- Write after write a longer front of the bytes is written.
use Rattle.wst_noted.proofs.WritingLemmas.{within, wrote_further}
use Rattle.wst_noted.proofs.writing.write_most.Goals as goal

pub loop-at-preserved : goal.loop-at-preserved
loop-at-preserved g c = (
  within c.loop-at.at c.in-Ok.taken _ c.loop-at.invariant.0 c.in-Ok.ensures.bound,
  wrote_further c.loop-at.at c.in-Ok.taken _ _ _ _ c.loop-at.invariant.1 c.in-Ok.ensures.bytes,
)
