-- What a session owes for what comes fits the layout of frames, under any key that its role may be handed.
use Rattle.ws_session.proofs.Replied.{replies_can}
use Rattle.ws_session.proofs.laws.replies_can_be_sent.Goals as goal

pub returns : goal.returns
returns c = replies_can
