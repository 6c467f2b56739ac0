-- What an echo owes, sent behind valid frames that leave no message open, leaves them valid and leaves none open.
use Rattle.ws_session.proofs.EchoReplied.{echo_stays_valid, nothing_open_after}
use Rattle.ws_session.proofs.laws.echo_replies_stay_valid.Goals as goal

pub returns-clause-valid : goal.returns-clause-valid
returns-clause-valid c = echo_stays_valid

pub returns-clause-leaves_none : goal.returns-clause-leaves_none
returns-clause-leaves_none c = nothing_open_after
