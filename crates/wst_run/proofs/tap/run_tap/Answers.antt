-- A server is named and connections to it are tapped, or it is told why not.
use Rattle.std.proofs.Common.{List, inl, subst, ℕ}
use Rattle.ws_frame.specs.Devices.{watched}
use Rattle.wst_run.specs.Tap.{TapsServer}
use Rattle.wst_run.proofs.tap.run_tap.Goals as goal

pub returns-in-Ok : goal.returns-in-Ok
returns-in-Ok g c = inl (
  c.in-Ok.server,
  c.in-Ok.ensures,
  subst (λ (l : List ℕ). TapsServer c.args.options.now l c.tap_server.result
      (watched g.W.Write.contents c.args.writer.now c.tap_server.new.writer)
      (watched g.F.Write.contents c.args.faults.now c.tap_server.new.faults)) c.address-address.ensures
      c.tap_server.ensures,
)
