-- The words of the line, the payload, and the end of the line.
use Rattle.std.proofs.Common.{◌∙◌}
use Rattle.ws_pair.proofs.Putting.{both_put, same_put}
use Rattle.ws_pair.proofs.report_lines.put_message.Goals as goal

pub returns : goal.returns
returns g c =
    both_put g.W.Write.contents _ _ _ _ _ _ _ _
    (same_put g.W.Write.contents _ _ _ _ _ _ (c.as_bytes.ensures.value ∙ c.word_of.ensures) c.put_more.ensures)
    (both_put g.W.Write.contents _ _ _ _ _ _ _ _ c.put_more-2.ensures
    (both_put g.W.Write.contents _ _ _ _ _ _ _ _
    (same_put g.W.Write.contents _ _ _ _ _ _ (c.as_bytes-2.ensures.value ∙ c.kind_word.ensures) c.put_more-3.ensures)
    (both_put g.W.Write.contents _ _ _ _ _ _ _ _ c.put_more-4.ensures
    (both_put g.W.Write.contents _ _ _ _ _ _ _ _ c.put_hex.ensures c.put_more-5.ensures))))
