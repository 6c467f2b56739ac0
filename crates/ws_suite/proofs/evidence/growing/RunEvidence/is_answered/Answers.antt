-- What is kept tells it, and there is one evidence.
use Rattle.ws_suite.proofs.GrowingLemmas.{tells_answered}
use Rattle.ws_suite.proofs.evidence.growing.RunEvidence.is_answered.Goals as goal

pub returns : goal.returns
returns c = λ tested turns h. tells_answered c.session_laws.ensures tested turns _ c.args.self.now c.answers.result c.self.view_is c.answers.ensures h
