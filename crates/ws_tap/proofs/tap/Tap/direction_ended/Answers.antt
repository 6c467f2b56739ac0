-- The end of a direction was passed on.
use Rattle.std.proofs.Common.{◌≡◌, true, sym, subst}
use Rattle.ws_wire.specs.declared.role.Role.{Role}
use Rattle.ws_wire.specs.declared.role.Role.TheVariants.{Client, Server}
use Rattle.ws_tap.specs.Told.{EndedTo}
use Rattle.ws_tap.specs.Piping.{PipeValue}
use Rattle.ws_tap.specs.Tapping.{ExtendsTap, ends_wanted}
use Rattle.ws_tap.proofs.TapStands.{tap_passed}
use Rattle.ws_tap.proofs.tap.Tap.direction_ended.Goals as goal

pub returns-in-Client : goal.returns-in-Client
returns-in-Client c =
    let self = c.args.self.now in
    let now = c.direction_ended.new.self in record {
      told = subst (λ (r : Role). ExtendsTap self (record self { server = now }) (EndedTo r)) (sym c.in-Client.is)
          (subst (λ (p : PipeValue). ExtendsTap self (record self { server = p }) (EndedTo Client))
          (sym c.direction_ended.ensures.ended) (λ tapped told text h. tap_passed Client self tapped told text
          (subst (λ (r : Role). ends_wanted r self ≡ true) c.in-Client.is c.requires.wanted) h));
    }

pub returns-in-Server : goal.returns-in-Server
returns-in-Server c =
    let self = c.args.self.now in
    let now = c.direction_ended-in-Server.new.self in record {
      told = subst (λ (r : Role). ExtendsTap self (record self { client = now }) (EndedTo r)) (sym c.in-Server.is)
          (subst (λ (p : PipeValue). ExtendsTap self (record self { client = p }) (EndedTo Server))
          (sym c.direction_ended-in-Server.ensures.ended) (λ tapped told text h. tap_passed Server self tapped told text
          (subst (λ (r : Role). ends_wanted r self ≡ true) c.in-Server.is c.requires.wanted) h));
    }
