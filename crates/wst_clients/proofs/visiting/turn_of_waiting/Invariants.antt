-- Those who come are still tested by these rules; of those who waited the first were passed over, since they ask for no
-- case by now, and there are fewer each time.
use Rattle.std.proofs.Common.{◌≡◌, length}
use Rattle.wst_clients.specs.Visitors.{AreHeld, AreTestedBy, PassedOver}
use Rattle.wst_clients.proofs.visiting.turn_of_waiting.Given as goal

abbrev pub invariant-loop-first : goal.invariant-loop-first
invariant-loop-first g l = record {
  are : AreTestedBy l.round.rules.now l.visitors;
  held : AreHeld g.L.Client.NonBlocking.did l.visitors;
  over : PassedOver l.round.rules.now l.round.standing.now l.initial.visitors.waiting.items l.visitors.waiting.items;
  ending : l.visitors.ending ≡ l.initial.visitors.ending;
}

abbrev pub decreases-loop-first : goal.decreases-loop-first
decreases-loop-first g l = length l.visitors.waiting.items
