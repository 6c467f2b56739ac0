-- Behind a close or a fault a stream has no event.
use Rattle.ws_session.proofs.EndIsLast.{close_ends, fault_ends}
use Rattle.ws_session.proofs.laws.the_end_comes_last.Goals as goal

pub returns-clause-close : goal.returns-clause-close
returns-clause-close c = close_ends

pub returns-clause-fault : goal.returns-clause-fault
returns-clause-fault c = fault_ends
