-- So far each place has come on, and who had ended keeps its number.
use Rattle.std.proofs.Common.{◌<◌, length}
use Rattle.ws_loops.specs.Places.{KeepTurns}
use Rattle.ws_networks.specs.NetworkLoops.{HaveComeOn, IsNetworkSound, network_value}
use Rattle.ws_networks.proofs.network_loop.run_board.Given as goal

abbrev pub invariant-loop-left : goal.invariant-loop-left
invariant-loop-left g l = record {
  room : 0 < length l.room;
  whole : IsNetworkSound g.M.Machine.agrees g.M.Machine.wants g.N.Stream.NonBlocking.did l.board.all
      l.board.outbound.items;
  run : HaveComeOn g.M.Machine.agrees g.M.Machine.wants g.N.Stream.NonBlocking.did g.K.LineSink.heard g.N.Network.did
      (g.P.Poller.time l.fn.poller) (g.P.Poller.time l.poller)
      (network_value l.fn.board.all l.fn.board.outbound.items).standings
      (network_value l.board.all l.board.outbound.items).standings l.fn.sink l.sink l.fn.network l.network;
  turns : KeepTurns (network_value l.fn.board.all l.fn.board.outbound.items).tickets
      (network_value l.board.all l.board.outbound.items).tickets;
}

abbrev pub decreases-loop-left : goal.decreases-loop-left
decreases-loop-left g l = l.left
