-- A stream has one list of events.
use Rattle.ws_session.proofs.EventsGoOn.{one_events}
use Rattle.ws_session.proofs.laws.one_list_of_events.Goals as goal

pub returns : goal.returns
returns c = one_events
