-- Every stream of bytes has a first fault or none, and events.
use Rattle.ws_session.proofs.FirstFault.{some_first_fault, some_events}
use Rattle.ws_session.proofs.laws.every_stream_has_events.Goals as goal

pub returns-clause-fault : goal.returns-clause-fault
returns-clause-fault c = some_first_fault

pub returns-clause-events : goal.returns-clause-events
returns-clause-events c = some_events
