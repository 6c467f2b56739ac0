-- A session that is over by the peer's close or a fault agrees with any more bytes as it is: they say nothing.
use Rattle.ws_session.proofs.Over.{over_agrees}
use Rattle.ws_session.proofs.laws.bytes_after_the_end.Goals as goal

pub returns : goal.returns
returns c = over_agrees
