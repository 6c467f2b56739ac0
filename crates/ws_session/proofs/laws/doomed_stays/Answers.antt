-- More bytes inside a doomed frame leave it doomed.
use Rattle.ws_session.proofs.DoomedStreams.{still_doomed}
use Rattle.ws_session.proofs.laws.doomed_stays.Goals as goal

pub returns : goal.returns
returns c = still_doomed
