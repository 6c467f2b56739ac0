-- Only what has its last line is a whole capture.
use Rattle.ws_scripts.proofs.CaptureParts.{not_whole}
use Rattle.ws_scripts.proofs.capture.reading.PartialCapturePartialText.value.Goals as goal

pub returns : goal.returns
returns c = not_whole c.args.self c.in_default.not-Whole
