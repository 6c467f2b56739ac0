-- Five worked verdicts by the protocol.
use Rattle.ws_suite.proofs.WorkedProtocol.{no_close, no_pong, own_close, own_end, own_message}
use Rattle.ws_suite.proofs.laws.worked_protocol_verdicts.Goals as goal

pub returns-clause-own_message : goal.returns-clause-own_message
returns-clause-own_message c = own_message c.frame_laws.ensures c.session_laws.ensures

pub returns-clause-own_end : goal.returns-clause-own_end
returns-clause-own_end c = own_end c.frame_laws.ensures c.session_laws.ensures

pub returns-clause-own_close : goal.returns-clause-own_close
returns-clause-own_close c = own_close c.frame_laws.ensures c.session_laws.ensures

pub returns-clause-no_pong : goal.returns-clause-no_pong
returns-clause-no_pong c = no_pong c.frame_laws.ensures c.session_laws.ensures

pub returns-clause-no_close : goal.returns-clause-no_close
returns-clause-no_close c = no_close c.frame_laws.ensures c.session_laws.ensures
