-- Those who come stay those who are tested, where one more waits.
use Rattle.std.proofs.Common.{ap, refl}
use Rattle.std.specs.Prelude.{Vec}
use Rattle.std.specs.declared.alloc.Global.{Global}
use Rattle.wst_clients.proofs.HeldLemmas.{held_more, waits_no_more}
use Rattle.wst_clients.proofs.VisitorLemmas.{are_more}
use Rattle.wst_clients.specs.declared.visitors.Waiting.{Waiting}
use Rattle.wst_clients.proofs.visitors.Visitors.wait_turn.Goals as goal

pub returns-in_ok-push-in-NotAsked-clause-stay : goal.returns-in_ok-push-in-NotAsked-clause-stay
returns-in_ok-push-in-NotAsked-clause-stay g c = λ known wait accepted are. are_more c.args.self.now _ known wait
    c.args.at c.args.request refl refl c.in_ok-push-in-NotAsked.ensures.items refl accepted are

pub returns-in_ok-push-in-NotAsked-clause-held : goal.returns-in_ok-push-in-NotAsked-clause-held
returns-in_ok-push-in-NotAsked-clause-held g c = held_more g.L.Client.NonBlocking.did c.args.self.now _ c.args.at
    c.args.request refl c.in_ok-push-in-NotAsked.ensures.items

pub returns-in-Answering : goal.returns-in-Answering
returns-in-Answering g c = record {
  queue = waits_no_more c.args.self.now.ending c.args.at c.args.request c.args.self.now.waiting.items
      c.leave.new.self.waiting.items c.in-Answering.is
      (ap (λ (v : Vec Waiting Global). v.items) c.leave.ensures.waiting);
  held = λ nobody decided are. c.leave.ensures.held nobody are;
  plays = c.leave.ensures.plays;
  stay = λ known wait accepted are. c.leave.ensures.stay.stay known wait are;
}
