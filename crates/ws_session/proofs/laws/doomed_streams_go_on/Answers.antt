-- A session is not over while what it took ends in a doomed frame, and its stream has not ended.
use Rattle.ws_session.proofs.DoomedSessions.{goes_on_in_doom}
use Rattle.ws_session.proofs.laws.doomed_streams_go_on.Goals as goal

pub returns : goal.returns
returns c = goes_on_in_doom
