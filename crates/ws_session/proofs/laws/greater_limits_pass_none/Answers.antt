-- Valid frames under some limits fit greater limits, all of them, and none passes those.
use Rattle.ws_session.proofs.Fitting.{none_passes}
use Rattle.ws_session.proofs.laws.greater_limits_pass_none.Goals as goal

pub returns : goal.returns
returns c = none_passes
