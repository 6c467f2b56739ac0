-- The first fault of a stream is that of the same stream with more bytes.
use Rattle.ws_session.proofs.Faults.{first_stays}
use Rattle.ws_session.proofs.laws.first_fault_stays.Goals as goal

pub returns : goal.returns
returns c = first_stays
