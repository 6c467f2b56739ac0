-- Read after read: no device has failed, all that was read was answered, and the budget that is left shrinks.
use Rattle.std.proofs.Common.{◌≡◌, false}
use Rattle.ws_frame.specs.Watching.{has_failed, inner_of}
use Rattle.ws_peer.proofs.Driven.{HasDriven, call_of_drive}
use Rattle.ws_peer.proofs.driving.drive.Given as goal

-- no device has failed, and all that was read was answered
abbrev pub invariant-reads : goal.invariant-reads
invariant-reads g l = record {
  reader_works : has_failed l.reader ≡ false;
  writer_works : has_failed l.writer ≡ false;
  driven : HasDriven (call_of_drive l.fn.echo.role l.fn.echo.limits l.key l.first l.budget) l.left l.echo (g.R.Read.remaining (inner_of l.fn.reader)) (g.R.Read.remaining (inner_of l.reader)) (g.W.Write.contents (inner_of l.fn.writer)) (g.W.Write.contents (inner_of l.writer));
}

abbrev pub decreases-reads : goal.decreases-reads
decreases-reads g l = l.left
