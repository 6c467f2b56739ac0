-- How a run with times or heads ended is told behind what was told in it.
use Rattle.std.proofs.Common.{inr, refl, rules, true, ◌≡◌}
use Rattle.ws_frame.specs.Devices.{watched}
use Rattle.wst_run.specs.Send.{is_noted}
use Rattle.wst_run.proofs.sending_noted.send_planned.Goals as goal

pub returns : goal.returns
returns g c =
    let noted : is_noted c.args.plan.now ≡ true = search rules in inr (
      noted,
      (
        c.run_noted-exit.result,
        watched g.F.Write.contents c.args.faults.now c.run_noted-exit.new.faults,
        (refl, c.end_noted.ensures.still),
        c.run_noted-exit.ensures,
        c.end_noted.ensures.told,
      ),
    )
