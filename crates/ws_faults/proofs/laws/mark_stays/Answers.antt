-- A frame that is marked stays so.
use Rattle.ws_faults.proofs.MarkedFronts.{mark_with_more}
use Rattle.ws_faults.proofs.laws.mark_stays.Goals as goal

pub returns : goal.returns
returns c = λ role bytes more place marked. mark_with_more role bytes more place marked
