-- Bytes that decide nothing are kept, and nothing else is changed.
use Rattle.std.proofs.Common.{map, rules}
use Rattle.ws_handshake.proofs.AdmitLemmas.{came_awaiting}
use Rattle.ws_handshake.proofs.admit_machine.AdmitMachine.on_came.Goals as goal

pub returns-in-None-clause-reads : goal.returns-in-None-clause-reads
returns-in-None-clause-reads c = came_awaiting c.args.self.now (record {
  known = map (λ name. name.now) c.self.inside.known.now;
  read = c.self.inside.reading;
  rest = c.self.inside.answer;
  outcome = c.self.inside.outcome;
}) c.on_came.new.self c.args.piece.now c.self.view_is c.requires.reading (search rules) (search rules)
