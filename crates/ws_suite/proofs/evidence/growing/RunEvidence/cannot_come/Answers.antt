-- What is left to compare tells it, and there is one evidence.
use Rattle.ws_suite.proofs.AstrayLemmas.{tells_astray}
use Rattle.ws_suite.proofs.evidence.growing.RunEvidence.cannot_come.Goals as goal

pub returns : goal.returns
returns c = λ tested turns h. tells_astray c.session_laws.ensures tested turns _ c.args.self.now c.cannot_come.result
    c.self.view_is c.cannot_come.ensures h
