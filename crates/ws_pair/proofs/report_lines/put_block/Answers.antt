-- The digits of the block are put.
use Rattle.ws_pair.proofs.Putting.{same_put}
use Rattle.ws_pair.proofs.report_lines.put_block.Goals as goal

pub returns : goal.returns
returns g c = same_put g.W.Write.contents _ _ _ _ _ _ c.put_digits.ensures.1 c.put_more.ensures
