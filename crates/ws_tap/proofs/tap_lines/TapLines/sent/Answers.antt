-- What is told of a piece of either end.
use Rattle.std.proofs.Common.{length, refl, sym, subst}
use Rattle.ws_wire.specs.declared.role.Role.{Role}
use Rattle.ws_wire.specs.declared.role.Role.TheVariants.{Client, Server}
use Rattle.ws_frame.specs.Devices.{watched}
use Rattle.ws_tap.specs.Standing.{CanTellMore, SendsTo}
use Rattle.ws_tap.proofs.ToldLemmas.{can_tell_more}
use Rattle.ws_tap.proofs.tap_lines.TapLines.sent.Goals as goal

pub tell_some-requires-clause-stands : goal.tell_some-requires-clause-stands
tell_some-requires-clause-stands g c = can_tell_more Client (length c.args.piece.now) c.args.self.now
    (subst (λ (r : Role). CanTellMore r (length c.args.piece.now) c.args.self.now) c.in-Client.is c.requires.stands)

pub tell_some-requires-in-Server-clause-stands : goal.tell_some-requires-in-Server-clause-stands
tell_some-requires-in-Server-clause-stands g c = can_tell_more Server (length c.args.piece.now) c.args.self.now
    (subst (λ (r : Role). CanTellMore r (length c.args.piece.now) c.args.self.now) c.in-Server.is c.requires.stands)

pub returns-in-Client : goal.returns-in-Client
returns-in-Client g c = record {
  told = subst (λ (r : Role). SendsTo r c.args.self.now (record c.args.self.now {
    client = c.tell_some.new.stage;
    release = c.tell_some.new.release;
  }) c.args.piece.now (watched g.W.Write.contents c.args.output.now c.tell_some.new.writer) c.tell_some.result)
      (sym c.in-Client.is)
      (c.tell_some.new.stage, c.tell_some.new.release, refl, c.tell_some.ensures.told);
}

pub returns-in-Server : goal.returns-in-Server
returns-in-Server g c = record {
  told = subst (λ (r : Role). SendsTo r c.args.self.now (record c.args.self.now {
    server = c.tell_some-in-Server.new.stage;
    release = c.tell_some-in-Server.new.release;
  }) c.args.piece.now (watched g.W.Write.contents c.args.output.now c.tell_some-in-Server.new.writer)
      c.tell_some-in-Server.result) (sym c.in-Server.is)
      (c.tell_some-in-Server.new.stage, c.tell_some-in-Server.new.release, refl, c.tell_some-in-Server.ensures.told);
}
