-- Five worked verdicts on a ping: answered, cut off, answered too early, unanswered, and the latest alone answered.
use Rattle.ws_suite.proofs.WorkedVerdicts.{answered_ping, before_its_ping, ended_by_peer, latest_answered, no_answer}
use Rattle.ws_suite.proofs.laws.worked_verdicts.Goals as goal

pub returns-clause-answered : goal.returns-clause-answered
returns-clause-answered c = answered_ping c.frame_laws.ensures

pub returns-clause-ended : goal.returns-clause-ended
returns-clause-ended c = ended_by_peer c.frame_laws.ensures

pub returns-clause-early : goal.returns-clause-early
returns-clause-early c = before_its_ping c.frame_laws.ensures

pub returns-clause-silent : goal.returns-clause-silent
returns-clause-silent c = no_answer c.frame_laws.ensures

pub returns-clause-latest : goal.returns-clause-latest
returns-clause-latest c = latest_answered c.frame_laws.ensures
