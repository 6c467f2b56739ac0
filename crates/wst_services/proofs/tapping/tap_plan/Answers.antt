-- Connections are tapped, and what was told of them was written.
use Rattle.std.proofs.Common.{◌≡◌, [], Result, rules, subst, sym}
use Rattle.ws_frame.specs.Devices.{watched}
use Rattle.ws_frame.specs.Watching.{has_failed, inner_of}
use Rattle.ws_frame.specs.declared.watching.Watched.{Watched}
use Rattle.wst_commands.specs.declared.exit.Exit.{Exit}
use Rattle.wst_commands.specs.declared.fault.Fault.{Fault}
use Rattle.wst_services.specs.Serve.{TellsFullOnce}
use Rattle.wst_services.specs.Tapping.{EndsTapping}
use Rattle.wst_services.proofs.TapLemmas.{ends_tapping, full_told, same_faults}
use Rattle.wst_services.proofs.tapping.tap_plan.Goals as goal

pub returns : goal.returns
returns g c =
    let new = c.tap_clients.new.shortage in
    let name = same_faults g.F.Write.contents _ new c.tap_clients.ensures.short in
    let left : new.faults.now ≡ c.faults-1.given.0 = search rules in (
      subst (λ (r : Result Exit Fault). EndsTapping c.args.plan.now [] r
          (watched g.W.Write.contents c.args.writer.now c.tap_clients.new.output)) (sym c.exit_of.ensures)
          (ends_tapping g.N.Stream.NonBlocking.did g.L.Listener.did g.N.Network.did c.args.plan.now
          c.args.over.listener c.args.over.network (g.W.Write.contents (inner_of c.args.writer.now))
          (g.W.Write.contents (inner_of c.tap_clients.new.output)) (has_failed c.tap_clients.new.output)
          c.tap_clients.result c.tap_clients.ensures.taps),
      subst (λ (f : Watched g.row.F.Denot). TellsFullOnce (watched g.F.Write.contents c.args.faults.now f)) left
          (full_told g.F.Write.contents _ new c.tap_clients.ensures.short),
    )
