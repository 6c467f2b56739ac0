-- One part after the other.
use Rattle.std.proofs.Common.{ap}
use Rattle.ws_pair.specs.InnerPrinting.{put_line}
use Rattle.ws_pair.proofs.Putting.{both_put, same_put}
use Rattle.ws_pair.proofs.report_lines.put_end.Goals as goal

pub returns : goal.returns
returns g c =
    both_put g.W.Write.contents _ _ _ _ _ _ _ _
    (same_put g.W.Write.contents _ _ _ _ _ _ (ap (put_line c.args.side) c.as_slice.ensures.value) c.put_put.ensures)
    (both_put g.W.Write.contents _ _ _ _ _ _ _ _ c.put_reached.ensures
    (both_put g.W.Write.contents _ _ _ _ _ _ _ _ c.put_messages.ensures
    (same_put g.W.Write.contents _ _ _ _ _ _ c.as_bytes.ensures.value c.put_more.ensures)))
