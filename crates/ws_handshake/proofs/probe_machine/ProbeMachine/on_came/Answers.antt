-- Bytes that decide nothing are kept, and nothing else is changed.
use Rattle.std.proofs.Common.{rules}
use Rattle.ws_handshake.specs.Probes.{asked_of}
use Rattle.ws_handshake.proofs.ProbeLemmas.{came_open}
use Rattle.ws_handshake.proofs.probe_machine.ProbeMachine.on_came.Goals as goal

pub returns-in-None-clause-answers : goal.returns-in-None-clause-answers
returns-in-None-clause-answers c = came_open c.args.self.now (record {
  asked = asked_of c.self.inside.plan;
  script = c.self.inside.script;
  rest = c.self.inside.request;
  read = c.self.inside.reading;
  stage = c.self.inside.stage;
}) c.on_came.new.self c.args.piece.now c.self.view_is c.requires.opening (search rules) (search rules)
