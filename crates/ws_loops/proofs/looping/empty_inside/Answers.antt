-- What stands there is taken, and its number.
use Rattle.std.proofs.Common.{refl}
use Rattle.ws_loops.proofs.LoopLemmas.{empty_has_none, whole_take}
use Rattle.ws_loops.proofs.looping.empty_inside.Goals as goal

pub returns-clause-whole : goal.returns-clause-whole
returns-clause-whole g c = whole_take g.M.Machine.agrees g.M.Machine.wants c.args.inside.now _ c.args.at
    c.requires.whole c.requires.at c.take_place.ensures.empty refl refl c.set_limit.ensures.set c.set_limit.ensures.tree
    refl refl refl refl refl c.min-inside.ensures

pub returns-clause-able : goal.returns-clause-able
returns-clause-able g c =
    c.requires.whole.standing.able c.args.at c.take_place.result c.take_place.ensures.taken

pub returns-clause-unnumbered : goal.returns-clause-unnumbered
returns-clause-unnumbered g c = λ is. empty_has_none g.M.Machine.agrees g.M.Machine.wants c.args.inside.now.seats
    c.args.at c.requires.whole.standing is
