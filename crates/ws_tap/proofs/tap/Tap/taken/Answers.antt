-- What was taken is not held any more.
use Rattle.std.proofs.Common.{sym, subst, take}
use Rattle.ws_wire.specs.declared.role.Role.{Role}
use Rattle.ws_wire.specs.declared.role.Role.TheVariants.{Client, Server}
use Rattle.ws_tap.specs.Told.{TakenBy}
use Rattle.ws_tap.specs.Piping.{PipeValue}
use Rattle.ws_tap.specs.Tapping.{ExtendsTap, waits_for}
use Rattle.ws_tap.proofs.TapStands.{tap_took}
use Rattle.ws_tap.proofs.tap.Tap.taken.Goals as goal

pub returns-in-Client : goal.returns-in-Client
returns-in-Client c =
    let self = c.args.self.now in
    let now = c.took.new.self in record {
      told = subst (λ (r : Role). ExtendsTap self (record self { server = now }) (TakenBy r (take c.args.count
          (waits_for r self)))) (sym c.in-Client.is)
          (subst (λ (p : PipeValue). ExtendsTap self (record self { server = p }) (TakenBy Client (take c.args.count
          (waits_for Client self))))
          (sym c.took.ensures.taken) (λ tapped told text h. tap_took Client self c.args.count tapped told text h));
    }

pub returns-in-Server : goal.returns-in-Server
returns-in-Server c =
    let self = c.args.self.now in
    let now = c.took-in-Server.new.self in record {
      told = subst (λ (r : Role). ExtendsTap self (record self { client = now }) (TakenBy r (take c.args.count
          (waits_for r self)))) (sym c.in-Server.is)
          (subst (λ (p : PipeValue). ExtendsTap self (record self { client = p }) (TakenBy Server (take c.args.count
          (waits_for Server self))))
          (sym c.took-in-Server.ensures.taken) (λ tapped told text h. tap_took Server self c.args.count tapped told
          text h));
    }
