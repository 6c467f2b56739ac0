-- Of those that were given a number it has the least one; where there is none, none has ended.
use Rattle.std.proofs.Common.{refl, subst}
use Rattle.ws_loops.specs.Places.{IsFirstToEnd, NoneHasEnded}
use Rattle.ws_loops.proofs.StartLemmas.{ended_none, first_over, none_known, none_over}
use Rattle.ws_loops.proofs.looping.next_ended.Goals as goal

pub returns-in-Some-clause-found : goal.returns-in-Some-clause-found
returns-in-Some-clause-found g c =
    let first = subst (λ l. IsFirstToEnd l c.in-Some.at) c.as_slice.ensures.value c.in-Some.ensures in
    (first_over g.M.Machine.agrees g.M.Machine.wants c.args.seats.now c.in-Some.at c.requires.standing first, first)

pub returns-in-None-clause-standing : goal.returns-in-None-clause-standing
returns-in-None-clause-standing g c = ended_none g.M.Machine.agrees g.M.Machine.wants c.args.seats.now _
    c.requires.standing (subst (λ l. NoneHasEnded l) c.as_slice.ensures.value c.in-None.ensures) refl refl refl refl
    refl

pub returns-in-None-clause-found : goal.returns-in-None-clause-found
returns-in-None-clause-found g c = none_over g.M.Machine.agrees g.M.Machine.wants c.args.seats.now c.requires.standing
    (subst (λ l. NoneHasEnded l) c.as_slice.ensures.value c.in-None.ensures)

pub returns-then-not-seats-clause-found : goal.returns-then-not-seats-clause-found
returns-then-not-seats-clause-found g c = none_known g.M.Machine.agrees g.M.Machine.wants c.args.seats.now
    c.requires.standing c.if-not-seats.true
