-- An event stands in the turn that holds its last byte.
use Rattle.ws_suite.proofs.LastBytes.{stands_with_last_byte}
use Rattle.ws_suite.proofs.laws.events_stand_with_their_last_byte.Goals as goal

pub returns : goal.returns
returns c = stands_with_last_byte c.session_laws.ensures
