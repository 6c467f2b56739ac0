-- Where the frame at fault is whole, it and those behind it decide.
use Rattle.std.proofs.Common.{false}
use Rattle.ws_suite.proofs.FrontFrames.{made}
use Rattle.ws_suite.proofs.HiddenFaults.{first_hides}
use Rattle.ws_suite.proofs.evidence.wire_frames.is_late.Goals as goal

pub returns-in-NotText : goal.returns-in-NotText
returns-in-NotText c = λ frames rest s.
    let f = c.in-Some.ensures in
    let x = made c.in-Some.frame.header f.payload in
    first_hides c.args.reason c.args.bytes.now c.in-Some.frame.after.now rest x frames c.leaves_open.result f.is_frame
    f.parts s (λ later split.
    let told = c.leaves_open.ensures later rest split in
    (λ e. let left = told.0 e in (c.in-NotText.is, left.0, left.1, left.2), λ h. told.1 (h.1, h.2, h.3)))

pub returns-in_default-reason : goal.returns-in_default-reason
returns-in_default-reason c = λ frames rest s.
    let f = c.in-Some.ensures in
    let x = made c.in-Some.frame.header f.payload in
    first_hides c.args.reason c.args.bytes.now c.in-Some.frame.after.now rest x frames false f.is_frame f.parts s
    (λ later split. (λ e. absurd cc, λ h. absurd (c.in_default-reason.not-NotText h.0)))
