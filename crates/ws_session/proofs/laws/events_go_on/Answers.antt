-- The events of a stream begin the events of the same stream with more bytes.
use Rattle.ws_session.proofs.EventsGoOn.{events_front}
use Rattle.ws_session.proofs.laws.events_go_on.Goals as goal

pub returns : goal.returns
returns c = events_front
