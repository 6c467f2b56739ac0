-- An echo that is finished puts nothing more, and its talk ends so.
use Rattle.std.proofs.Common.{[], sym, append-nil}
use Rattle.ws_peer.proofs.EchoTalkLemmas.{had_finished}
use Rattle.ws_peer.proofs.echo_peer.EchoPeerPeer.finish.Goals as goal

pub returns-clause-said : goal.returns-clause-said
returns-clause-said c = record { appended = []; grown = sym (append-nil _); leads = λ end talk had. had_finished c.echo_laws.ensures _ end talk had }
