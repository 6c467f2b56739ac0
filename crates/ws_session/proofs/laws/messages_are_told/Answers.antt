-- The messages among the events of some frames are those that the frames finish.
use Rattle.ws_session.proofs.FinishedMessages.{messages_told}
use Rattle.ws_session.proofs.laws.messages_are_told.Goals as goal

pub returns : goal.returns
returns c = messages_told
