-- The four examples.
use Rattle.ws_suite.proofs.WorkedVerdicts.{earlier_is_none, latest_is_answered, ping_is_answered, silence_is_none}
use Rattle.ws_suite.proofs.laws.worked_answers.Goals as goal

pub returns-clause-answered : goal.returns-clause-answered
returns-clause-answered c = ping_is_answered c.frame_laws.ensures

pub returns-clause-silent : goal.returns-clause-silent
returns-clause-silent c = silence_is_none c.frame_laws.ensures c.session_laws.ensures

pub returns-clause-early : goal.returns-clause-early
returns-clause-early c = earlier_is_none c.frame_laws.ensures c.session_laws.ensures

pub returns-clause-latest : goal.returns-clause-latest
returns-clause-latest c = latest_is_answered c.frame_laws.ensures
