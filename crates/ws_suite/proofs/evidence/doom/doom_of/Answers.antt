-- Without bytes nothing is doomed.
use Rattle.ws_suite.specs.Evidence.{sent_turns}
use Rattle.ws_suite.proofs.DoomLemmas.{nothing_is_not_doomed}
use Rattle.ws_suite.proofs.evidence.doom.doom_of.Goals as goal

pub returns-in_default : goal.returns-in_default
returns-in_default c = nothing_is_not_doomed c.args.tested (sent_turns c.args.transcript.now.turns) c.in_default.ensures
