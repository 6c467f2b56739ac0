-- The digits of the number are put.
use Rattle.std.proofs.Common.{◌∙◌}
use Rattle.ws_pair.proofs.Putting.{same_put}
use Rattle.ws_pair.proofs.report_lines.put_number.Goals as goal

pub returns : goal.returns
returns g c = same_put g.W.Write.contents _ _ _ _ _ _ (c.as_bytes.ensures.value ∙ c.format.ensures.text) c.put_more.ensures
