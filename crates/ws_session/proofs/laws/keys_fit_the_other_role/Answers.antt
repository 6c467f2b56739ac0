-- Frames under the key of one role are masked as the other role demands of its peer.
use Rattle.ws_session.proofs.Replied.{keys_fit}
use Rattle.ws_session.proofs.laws.keys_fit_the_other_role.Goals as goal

pub returns : goal.returns
returns c = keys_fit
