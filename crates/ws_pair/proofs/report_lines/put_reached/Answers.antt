-- The word of the end, what it says, the number, and the end of the line.
use Rattle.std.proofs.Common.{◌∙◌}
use Rattle.ws_pair.proofs.Putting.{both_put, same_put}
use Rattle.ws_pair.proofs.report_lines.put_reached.Goals as goal

pub returns : goal.returns
returns g c =
    both_put g.W.Write.contents _ _ _ _ _ _ _ _
    (same_put g.W.Write.contents _ _ _ _ _ _ (c.as_bytes.ensures.value ∙ c.word_of.ensures) c.put_more.ensures)
    (both_put g.W.Write.contents _ _ _ _ _ _ _ _ c.put_more-2.ensures
    (both_put g.W.Write.contents _ _ _ _ _ _ _ _ c.put_number.ensures c.put_more-3.ensures))
