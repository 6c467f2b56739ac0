-- So far this is played on, and the lines that the sink took of its place are those of which it was told.
use Rattle.wst_clients.proofs.SendLemmas.{PlaysSo}
use Rattle.wst_clients.proofs.sending_to_client.play_alone.Given as goal

abbrev pub invariant-loop-left : goal.invariant-loop-left
invariant-loop-left g l = record {
  plays : PlaysSo g.K.LineSink.heard g.M.Machine.agrees g.L.Client.NonBlocking.did
      l.fn.visitors.clients.held l.at l.fn.machine l.visitors.clients.places l.fn.sink l.sink;
}

abbrev pub decreases-loop-left : goal.decreases-loop-left
decreases-loop-left g l = l.left
