-- Only what has its last line is a whole stream.
use Rattle.ws_followed.proofs.ReadingSteps.{not_whole}
use Rattle.ws_followed.proofs.reading.PartialFollowedPartialText.value.Goals as goal

pub returns : goal.returns
returns c = λ value told. not_whole c.args.self value c.in_default.not-Whole told
