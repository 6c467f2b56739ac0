-- A transcript of an end that was tapped has one verdict.
use Rattle.ws_suite.proofs.OneVerdictBy.{one_tapped}
use Rattle.ws_suite.proofs.laws.one_tapped_verdict.Goals as goal

pub returns : goal.returns
returns c = one_tapped c.session_laws.ensures
