-- One place more, and which of all ended first.
use Rattle.std.proofs.Common.{◌+◌, arith, subst, sym}
use Rattle.ws_loops.proofs.EndLemmas.{IsFirstBefore, first_next, first_none, none_ended, one_ended}
use Rattle.ws_loops.proofs.places.first_to_end.Goals as goal

pub loop-at-init : goal.loop-at-init
loop-at-init c = record { within = omega arith; first = first_none c.args.tickets.now }

pub loop-at-preserved : goal.loop-at-preserved
loop-at-preserved c = record {
  within = omega (arith, c.loop-at-test.true);
  first = subst (λ f. IsFirstBefore c.args.tickets.now (c.loop-at.at + 1) f) (sym c.earlier-first.ensures)
      (first_next c.args.tickets.now c.loop-at.at c.loop-at.first c.ticket_at.result c.ticket_at.ensures
      c.loop-at.invariant.first);
}

pub returns-in-Some : goal.returns-in-Some
returns-in-Some c = one_ended c.args.tickets.now c.loop-at.at (c.in-Some.at, c.in-Some.field-0-1)
    (omega (arith, c.loop-at-test.false))
    (subst (λ f. IsFirstBefore c.args.tickets.now c.loop-at.at f) c.in-Some.is c.loop-at.invariant.first)

pub returns-in-None : goal.returns-in-None
returns-in-None c = none_ended c.args.tickets.now c.loop-at.at (omega (arith, c.loop-at-test.false))
    (subst (λ f. IsFirstBefore c.args.tickets.now c.loop-at.at f) c.in-None.is c.loop-at.invariant.first)
