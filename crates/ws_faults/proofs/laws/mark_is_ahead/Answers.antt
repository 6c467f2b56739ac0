-- The frame that is marked begins behind the whole frames before it.
use Rattle.ws_faults.proofs.MarkedFronts.{mark_ahead}
use Rattle.ws_faults.proofs.laws.mark_is_ahead.Goals as goal

pub returns : goal.returns
returns c = λ role bytes more place none marked frames rest split.
    mark_ahead role bytes more place none marked frames rest split
