-- Four worked verdicts on a tapped server.
use Rattle.ws_suite.proofs.WorkedTapped.{first_end, no_close, own_close, second_end}
use Rattle.ws_suite.proofs.laws.worked_tapped_verdicts.Goals as goal

pub returns-clause-first_end : goal.returns-clause-first_end
returns-clause-first_end c = first_end c.frame_laws.ensures c.session_laws.ensures

pub returns-clause-second_end : goal.returns-clause-second_end
returns-clause-second_end c = second_end c.frame_laws.ensures c.session_laws.ensures

pub returns-clause-own_close : goal.returns-clause-own_close
returns-clause-own_close c = own_close c.frame_laws.ensures c.session_laws.ensures

pub returns-clause-no_close : goal.returns-clause-no_close
returns-clause-no_close c = no_close c.frame_laws.ensures c.session_laws.ensures
