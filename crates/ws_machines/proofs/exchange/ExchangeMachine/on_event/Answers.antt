-- What was taken is the front of what was to be written.
use Rattle.std.proofs.Common.{sym}
use Rattle.ws_machines.proofs.ExchangeLemmas.{taken_so}
use Rattle.ws_machines.proofs.exchange.ExchangeMachine.on_event.Goals as goal

pub returns-in-Taken-clause-told : goal.returns-in-Taken-clause-told
returns-in-Taken-clause-told c = λ start told h.
    taken_so start c.args.self.now told c.args.event c.in-Taken.count c.self.inside.written c.self.inside.bytes.items
    c.self.inside.got.items c.self.inside.left c.self.inside.is_over (sym c.self.view_is) c.in-Taken.is h
