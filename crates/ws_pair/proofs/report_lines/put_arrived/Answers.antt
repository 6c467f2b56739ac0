-- A word, the number, and the end of the line.
use Rattle.ws_pair.proofs.Putting.{both_put}
use Rattle.ws_pair.proofs.report_lines.put_arrived.Goals as goal

pub returns : goal.returns
returns g c =
    both_put g.W.Write.contents _ _ _ _ _ _ _ _ c.put_more.ensures
    (both_put g.W.Write.contents _ _ _ _ _ _ _ _ c.put_number.ensures c.put_more-2.ensures)
