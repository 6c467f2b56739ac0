-- Replies to more events are those to the first ones, and then, with these sent, those to the others.
use Rattle.ws_session.proofs.Over.{replies_by-append}
use Rattle.ws_session.proofs.laws.replies_go_on.Goals as goal

pub returns : goal.returns
returns c = replies_by-append
