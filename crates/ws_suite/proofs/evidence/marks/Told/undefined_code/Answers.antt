-- The code stands in the frame at fault; without such a fault there is none.
use Rattle.std.proofs.Common.{◌≡◌, ◌∙◌, ℕ, Some, ap, drop, sym}
use Rattle.ws_session.specs.declared.reason.Reason.{Reason}
use Rattle.ws_session.specs.declared.reason.Reason.TheVariants.{CloseCode}
use Rattle.ws_suite.specs.InnerMarks.{fault_of}
use Rattle.ws_suite.proofs.StreamEndLemmas.{code_fault_is_short, code_is_told, ends_with_told_fault, frame_at_fault}
use Rattle.ws_suite.proofs.StreamEndLemmas.{frame_at_last, is_frame_at_fault}
use Rattle.ws_suite.proofs.ToldLemmas.{asked_of_fault, never_undefined, no_code_of_another}
use Rattle.ws_suite.proofs.evidence.marks.Told.undefined_code.Goals as goal

pub returns-in_default : goal.returns-in_default
returns-in_default c = λ role bytes h. never_undefined role bytes c.args.self.now.seen h.is_seen c.in_default.ensures

pub returns-in-CloseCode : goal.returns-in-CloseCode
returns-in-CloseCode c = λ role bytes h.
    let seen = c.args.self.now.seen in
    let is : Some CloseCode ≡ fault_of seen.end = ap (λ (r : Reason). Some r) (sym c.in-CloseCode.is)
    ∙ c.in-Some.ensures in
    let ends = ends_with_told_fault role bytes h.is_seen.events seen.end seen.last CloseCode is h.is_seen.ends in
    let asked : c.as_slice.result.now ≡ drop seen.last bytes = c.as_slice.ensures.value ∙ h.asked
    ∙ ap (λ (n : ℕ). drop n bytes) (asked_of_fault seen.end seen.last seen.after CloseCode is) in
    let place = ends.0 in
    let f = ends.1 in
    code_is_told role bytes place f c.undefined_code.result
    (c.undefined_code.ensures (frame_at_fault role bytes place f) (drop place bytes)
    (is_frame_at_fault role bytes place f) (asked ∙ frame_at_last role bytes place f seen.last ends.2)
    (code_fault_is_short role bytes place f))

pub returns-in_default-reason : goal.returns-in_default-reason
returns-in_default-reason c = λ role bytes h.
    no_code_of_another role bytes c.args.self.now.seen h.is_seen c.in-Some.reason c.in-Some.ensures
    c.in_default-reason.not-CloseCode
