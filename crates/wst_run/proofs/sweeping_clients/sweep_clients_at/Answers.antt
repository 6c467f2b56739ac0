-- How it ended is told behind what was told before.
use Rattle.std.proofs.Common.{refl}
use Rattle.ws_frame.specs.Devices.{watched}
use Rattle.wst_run.proofs.sweeping_clients.sweep_clients_at.Goals as goal

pub returns : goal.returns
returns g c = (
  c.sweep_at-ended.result,
  watched g.F.Write.contents c.args.faults.now c.sweep_at-ended.new.faults,
  (refl, c.end_run.ensures.still),
  c.sweep_at-ended.ensures.sweeps,
  c.end_run.ensures.ends,
)
