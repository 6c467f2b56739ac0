-- A transcript has one verdict by what is expected of the tested end.
use Rattle.ws_suite.proofs.OneVerdictBy.{one_verdict_by_all}
use Rattle.ws_suite.proofs.laws.one_verdict_by.Goals as goal

pub returns : goal.returns
returns c = one_verdict_by_all c.session_laws.ensures
