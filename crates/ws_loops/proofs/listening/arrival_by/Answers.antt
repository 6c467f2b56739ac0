-- What has ended comes first, then clients, then the time.
use Rattle.std.proofs.Common.{◌∙◌, refl, subst, sym}
use Rattle.ws_loops.specs.Places.{NoneIsOver}
use Rattle.ws_loops.proofs.ListenLemmas.{heard_nothing}
use Rattle.ws_loops.proofs.LoopLemmas.{whole_known}
use Rattle.ws_loops.proofs.listening.arrival_by.Goals as goal

pub returns-in-Some-clause-asked : goal.returns-in-Some-clause-asked
returns-in-Some-clause-asked g c = heard_nothing g.L.Listener.did c.args.listener.now

pub returns-in-Some-clause-whole : goal.returns-in-Some-clause-whole
returns-in-Some-clause-whole g c = whole_known g.M.Machine.agrees g.M.Machine.wants c.args.inside.now _ c.requires.whole
    c.next_ended.ensures.standing c.next_ended.ensures.same refl refl refl

pub returns-in-Some-client_by-clause-arrived : goal.returns-in-Some-client_by-clause-arrived
returns-in-Some-client_by-clause-arrived g c = c.in-Some-client_by.ensures.client.2 c.args.until c.args.now

pub returns-then-over-clause-arrived : goal.returns-then-over-clause-arrived
returns-then-over-clause-arrived g c = (
  sym c.has_come-over.ensures ∙ c.if-over.true,
  subst (λ l. NoneIsOver g.M.Machine.wants l) (sym c.client_by.ensures.same.places) c.in-None.ensures.found,
)
