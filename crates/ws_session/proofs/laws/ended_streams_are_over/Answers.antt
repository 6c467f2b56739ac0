-- A session whose stream has ended is over.
use Rattle.ws_session.proofs.Over.{ended_is_over}
use Rattle.ws_session.proofs.laws.ended_streams_are_over.Goals as goal

pub returns : goal.returns
returns c = ended_is_over
