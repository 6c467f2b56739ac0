-- What the other implementation puts for a piece stands behind what it put before; no more is claimed of it.
use Rattle.ws_peer.proofs.EchoTalkLemmas.{begun_by}
use Rattle.ws_peer.proofs.tung_peer.TungPeerPeer.feed.Goals as goal

pub returns-in-Ok-clause-said : goal.returns-in-Ok-clause-said
returns-in-Ok-clause-said c = record { appended = _; grown = begun_by _ _ c.exchange.ensures.kept; leads = λ _ _ _. tt }
