-- The line of the answer, whichever it is.
use Rattle.std.proofs.Common.{◌∙◌, ap, sym}
use Rattle.ws_pair.specs.declared.report.Answer.{Answer}
use Rattle.ws_pair.specs.ReportLines.{answer_line}
use Rattle.ws_pair.proofs.Putting.{same_put}
use Rattle.ws_pair.proofs.report_lines.put_answer.Goals as goal

pub returns-in-Did : goal.returns-in-Did
returns-in-Did g c = same_put g.W.Write.contents _ _ _ _ _ _ (ap (λ (x : Answer). answer_line x) (sym c.in-Did.is)) c.put_more.ensures

pub returns-in-Refused : goal.returns-in-Refused
returns-in-Refused g c =
    same_put g.W.Write.contents _ _ _ _ _ _
    (c.as_bytes.ensures.value ∙ (c.refusal_line.ensures ∙ ap (λ (x : Answer). answer_line x) (sym c.in-Refused.is)))
    c.put_more-in-Refused.ensures

pub returns-in-Arrived : goal.returns-in-Arrived
returns-in-Arrived g c =
    same_put g.W.Write.contents _ _ _ _ _ _ (ap (λ (x : Answer). answer_line x) (sym c.in-Arrived.is)) c.put_arrived.ensures

pub returns-in-Cut : goal.returns-in-Cut
returns-in-Cut g c =
    same_put g.W.Write.contents _ _ _ _ _ _ (ap (λ (x : Answer). answer_line x) (sym c.in-Cut.is)) c.put_more-in-Cut.ensures
