-- An application that is told that no more comes puts nothing, and its talk ends so.
use Rattle.std.proofs.Common.{[], sym, append-nil}
use Rattle.ws_peer.proofs.AppTalkLemmas.{said_finished}
use Rattle.ws_peer.proofs.app_peer.AppPeerPeer.finish.Goals as goal

pub returns-clause-said : goal.returns-clause-said
returns-clause-said c = record { appended = []; grown = sym (append-nil _); leads = λ end talk had. said_finished _ end talk had }
