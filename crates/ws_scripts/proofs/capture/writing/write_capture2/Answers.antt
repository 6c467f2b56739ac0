-- What is printed is what format 2 is written as.
use Rattle.std.proofs.Common.{◌≡◌, ◌∙◌, rules}
use Rattle.ws_scripts.specs.declared.capture.line.Format.TheVariants.{Two}
use Rattle.ws_scripts.specs.InnerCapturing.{capture_text}
use Rattle.ws_scripts.proofs.CaptureTexts.{written_2}
use Rattle.ws_scripts.proofs.capture.writing.write_capture2.Goals as goal

pub returns : goal.returns
returns c =
    let printed : c.into_bytes.result.items
    ≡ capture_text Two c.args.capture.now.key c.args.capture.now.transcript = search rules in
    printed ∙ written_2 c.args.capture.now
