-- What reaches the end is a capture, and a text is damaged where its lines stop to.
use Rattle.std.proofs.Common.{◌≡◌, ◌∙◌, ap}
use Rattle.ws_base.specs.declared.text_fault.TextFault.TheVariants.{Damaged}
use Rattle.ws_capture_text.proofs.Told.{damaged_capture, is_capture}
use Rattle.ws_capture_text.proofs.checking.check_capture.Goals as goal

pub returns-in-Ok : goal.returns-in-Ok
returns-in-Ok c = is_capture c.in-Ok.field-0 c.args.text.now c.in-Ok.ensures

pub returns-in-Err-Damaged : goal.returns-in-Err-Damaged
returns-in-Err-Damaged c = λ n e.
    let same : c.in-Err-Damaged.line ≡ n = cc in
    damaged_capture n c.args.text.now (c.in-Err-Damaged.ensures n (c.in-Err-Damaged.field-0-is ∙ ap Damaged same))
