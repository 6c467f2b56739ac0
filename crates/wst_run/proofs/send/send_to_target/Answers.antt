-- How it ended is told behind what was told before.
use Rattle.std.proofs.Common.{refl}
use Rattle.ws_frame.specs.Devices.{watched}
use Rattle.wst_run.proofs.send.send_to_target.Goals as goal

pub returns : goal.returns
returns g c = (
  c.send_input-ended.result,
  watched g.F.Write.contents c.args.faults.now c.send_input-ended.new.faults,
  (refl, c.end_run.ensures.still),
  c.send_input-ended.ensures.sends,
  c.end_run.ensures.ends,
)
