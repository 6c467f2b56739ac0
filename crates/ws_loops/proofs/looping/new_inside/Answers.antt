-- In a loop in which nothing stands nothing is due.
use Rattle.std.proofs.Common.{refl}
use Rattle.ws_loops.proofs.StartLemmas.{new_sound, none_new}
use Rattle.ws_loops.proofs.looping.new_inside.Goals as goal

pub returns-clause-whole : goal.returns-clause-whole
returns-clause-whole g c = new_sound g.M.Machine.agrees g.M.Machine.wants c.args.len _ c.in_ok-seats.ensures
    c.in_ok-all.ensures refl

pub returns-clause-none : goal.returns-clause-none
returns-clause-none g c = none_new c.args.len c.in_ok-seats.seats c.in_ok-seats.ensures
