-- A frame that may be sent, behind valid frames, leaves them valid.
use Rattle.ws_session.proofs.SendsStayValid.{send_stays_valid}
use Rattle.ws_session.proofs.laws.sends_stay_valid.Goals as goal

pub returns : goal.returns
returns c = send_stays_valid
