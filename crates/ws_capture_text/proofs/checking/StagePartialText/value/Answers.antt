-- Only what has its last line is a whole capture.
use Rattle.ws_capture_text.proofs.StageSteps.{not_whole}
use Rattle.ws_capture_text.proofs.checking.StagePartialText.value.Goals as goal

pub returns-in_default : goal.returns-in_default
returns-in_default c = not_whole c.args.self c.in_default.not-Whole
