-- What is collected tells it, and there is one evidence.
use Rattle.std.proofs.Common.{refl}
use Rattle.ws_suite.proofs.GrowingLemmas.{tells_inside}
use Rattle.ws_suite.proofs.evidence.growing.RunEvidence.ends_inside_frame.Goals as goal

pub returns : goal.returns
returns c = λ tested turns h. tells_inside c.session_laws.ensures tested turns _ c.args.self.now _ c.self.view_is refl h
