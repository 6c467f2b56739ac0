-- What is printed is what format 1 is written as.
use Rattle.std.proofs.Common.{◌≡◌, ◌∙◌, rules, None}
use Rattle.ws_scripts.specs.declared.capture.line.Format.TheVariants.{One}
use Rattle.ws_scripts.specs.InnerCapturing.{capture_text}
use Rattle.ws_scripts.proofs.CaptureTexts.{written_1}
use Rattle.ws_scripts.proofs.capture.writing.write_capture.Goals as goal

pub returns : goal.returns
returns c =
    let printed : c.into_bytes.result.items ≡ capture_text One None c.args.transcript.now = search rules in
    printed ∙ written_1 None c.args.transcript.now
