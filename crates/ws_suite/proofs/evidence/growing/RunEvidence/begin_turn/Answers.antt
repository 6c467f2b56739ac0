-- One turn more.
use Rattle.ws_suite.proofs.GrowingLemmas.{next_turn}
use Rattle.ws_suite.proofs.evidence.growing.RunEvidence.begin_turn.Goals as goal

pub returns-clause-grown : goal.returns-clause-grown
returns-clause-grown c = λ tested turns room h.
    next_turn tested _ _ c.self.view_is turns c.saturating_add-self-inside.result _ c.saturating_add-self-inside.ensures
    c.begin_turn.ensures room h
