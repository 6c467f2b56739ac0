-- Nothing has changed but what is known of the numbers.
use Rattle.std.proofs.Common.{◌∙◌, refl, sym}
use Rattle.ws_loops.proofs.LoopLemmas.{whole_known}
use Rattle.ws_loops.proofs.looping.ending_by.Goals as goal

pub returns-clause-whole : goal.returns-clause-whole
returns-clause-whole g c = whole_known g.M.Machine.agrees g.M.Machine.wants c.args.inside.now _ c.requires.whole
    c.next_ended.ensures.standing c.next_ended.ensures.same refl refl refl

pub returns-in-Some-clause-whole : goal.returns-in-Some-clause-whole
returns-in-Some-clause-whole g c = whole_known g.M.Machine.agrees g.M.Machine.wants c.args.inside.now _ c.requires.whole
    c.next_ended.ensures.standing c.next_ended.ensures.same refl refl refl

pub returns-then-has_come-clause-whole : goal.returns-then-has_come-clause-whole
returns-then-has_come-clause-whole g c = whole_known g.M.Machine.agrees g.M.Machine.wants c.args.inside.now _
    c.requires.whole
    c.next_ended.ensures.standing c.next_ended.ensures.same refl refl refl

pub returns-then-are_empty-clause-whole : goal.returns-then-are_empty-clause-whole
returns-then-are_empty-clause-whole g c = whole_known g.M.Machine.agrees g.M.Machine.wants c.args.inside.now _
    c.requires.whole
    c.next_ended.ensures.standing c.next_ended.ensures.same refl refl refl

pub returns-then-has_come-clause-ending : goal.returns-then-has_come-clause-ending
returns-then-has_come-clause-ending g c = (sym c.has_come.ensures ∙ c.if-has_come.true, c.in-None.ensures.found)
