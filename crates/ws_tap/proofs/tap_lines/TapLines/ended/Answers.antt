-- What is told of the end of a direction, at either end.
use Rattle.std.proofs.Common.{sym, subst}
use Rattle.ws_wire.specs.declared.role.Role.{Role}
use Rattle.ws_wire.specs.declared.role.Role.TheVariants.{Client, Server}
use Rattle.ws_frame.specs.Devices.{watched}
use Rattle.ws_tap.specs.Standing.{CanTellMore, TellsEnded}
use Rattle.ws_tap.proofs.ToldLemmas.{can_end_more, ended_tells}
use Rattle.ws_tap.proofs.tap_lines.TapLines.ended.Goals as goal

pub tell_end-requires-clause-stands : goal.tell_end-requires-clause-stands
tell_end-requires-clause-stands g c = can_end_more Client c.args.self.now
    (subst (λ (r : Role). CanTellMore r 0 c.args.self.now) c.in-Client.is c.requires.stands)

pub tell_end-requires-in-Server-clause-stands : goal.tell_end-requires-in-Server-clause-stands
tell_end-requires-in-Server-clause-stands g c = can_end_more Server c.args.self.now
    (subst (λ (r : Role). CanTellMore r 0 c.args.self.now) c.in-Server.is c.requires.stands)

pub returns-in-Client : goal.returns-in-Client
returns-in-Client g c = record {
  told = subst (λ (r : Role). TellsEnded r c.args.self.now (record c.args.self.now {
    client = c.tell_end.new.stage;
    release = c.tell_end.new.release;
  }) (watched g.W.Write.contents c.args.output.now c.tell_end.new.writer) c.tell_end.result) (sym c.in-Client.is)
      (ended_tells Client c.args.self.now c.tell_end.new.stage c.tell_end.new.release
      (watched g.W.Write.contents c.args.output.now c.tell_end.new.writer) c.tell_end.result c.tell_end.ensures.told);
}

pub returns-in-Server : goal.returns-in-Server
returns-in-Server g c = record {
  told = subst (λ (r : Role). TellsEnded r c.args.self.now (record c.args.self.now {
    server = c.tell_end-in-Server.new.stage;
    release = c.tell_end-in-Server.new.release;
  }) (watched g.W.Write.contents c.args.output.now c.tell_end-in-Server.new.writer) c.tell_end-in-Server.result)
      (sym c.in-Server.is)
      (ended_tells Server c.args.self.now c.tell_end-in-Server.new.stage c.tell_end-in-Server.new.release
      (watched g.W.Write.contents c.args.output.now c.tell_end-in-Server.new.writer) c.tell_end-in-Server.result
      c.tell_end-in-Server.ensures.told);
}
