-- What a session owes for what comes, sent behind valid frames, leaves them valid.
use Rattle.ws_session.proofs.Replied.{stays_valid}
use Rattle.ws_session.proofs.laws.replies_stay_valid.Goals as goal

pub returns : goal.returns
returns c = stays_valid
