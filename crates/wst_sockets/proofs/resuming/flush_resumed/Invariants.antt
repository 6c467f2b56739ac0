-- A flush that was interrupted has kept what the writer holds.
use Rattle.std.specs.Io.KnownBytes.{Keeps}
use Rattle.wst_sockets.proofs.resuming.flush_resumed.Given as goal

abbrev pub invariant-loop : goal.invariant-loop
invariant-loop g l = Keeps (g.W.Write.contents l.initial.writer) (g.W.Write.contents l.writer)
