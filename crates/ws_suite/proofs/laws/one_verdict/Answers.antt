-- A transcript has one verdict on the tested end.
use Rattle.ws_suite.proofs.OneVerdict.{one_verdict_of}
use Rattle.ws_suite.proofs.laws.one_verdict.Goals as goal

pub returns : goal.returns
returns c = one_verdict_of c.session_laws.ensures
