-- How it ended is told behind what was told before.
use Rattle.std.proofs.Common.{refl}
use Rattle.ws_frame.specs.Devices.{watched}
use Rattle.wst_run.proofs.clients_at.test_clients_at.Goals as goal

pub returns : goal.returns
returns g c = (
  c.test_at-ended.result,
  watched g.F.Write.contents c.args.faults.now c.test_at-ended.new.faults,
  (refl, c.end_run.ensures.still),
  c.test_at-ended.ensures.tests,
  c.end_run.ensures.ends,
)
