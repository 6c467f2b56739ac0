-- Any of them may fail to be waited for; and they are tested by the rules still, and each who waits is held.
use Rattle.wst_clients.proofs.ClientLemmas.{may_stop}
use Rattle.wst_clients.proofs.HeldLemmas.{both_ok}
use Rattle.wst_clients.proofs.tested_clients.VisitorsTesterTestedClients.next_visit.Goals as goal

pub returns-clause-stops : goal.returns-clause-stops
returns-clause-stops g c = may_stop c.take_next.result

pub returns-clause-are : goal.returns-clause-are
returns-clause-are g c = both_ok c.take_next.result _ _ c.take_next.ensures.are c.take_next.ensures.held
