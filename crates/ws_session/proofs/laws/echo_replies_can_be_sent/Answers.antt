-- What an echo owes fits the layout of frames, where the messages that it takes have less than 2^63 bytes.
use Rattle.ws_session.proofs.EchoReplied.{echo_can}
use Rattle.ws_session.proofs.laws.echo_replies_can_be_sent.Goals as goal

pub returns : goal.returns
returns c = echo_can
