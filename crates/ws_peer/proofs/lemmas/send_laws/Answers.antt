-- The laws on which the proofs about sends rest hold: they are laws of the layer below.
use Rattle.ws_peer.proofs.lemmas.send_laws.Goals as goal

pub returns : goal.returns
returns c = record { one_list = c.one_list_of_events.ensures; valid = c.sends_stay_valid.ensures }
