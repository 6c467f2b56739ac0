-- None in front of it is empty, and it is, or none is.
use Rattle.std.proofs.Common.{arith, refl, subst, sym}
use Rattle.ws_loops.specs.Places.{AreOccupied, IsFirstFree}
use Rattle.ws_loops.proofs.LoopLemmas.{same_seats, whole_same}
use Rattle.ws_loops.proofs.StartLemmas.{all_taken, free_is_empty}
use Rattle.ws_loops.proofs.looping.free_inside.Goals as goal

pub free_place-inside-requires-clause-from : goal.free_place-inside-requires-clause-from
free_place-inside-requires-clause-from g c =
    subst (λ l. AreOccupied l c.args.inside.now.free) (sym c.as_slice.ensures.value) c.requires.whole.free

pub returns-then-inside-len-clause-free : goal.returns-then-inside-len-clause-free
returns-then-inside-len-clause-free g c =
    let places = c.args.inside.now.seats.places.items in
    let at = c.free_place-inside.result in
    let free = subst (λ l. IsFirstFree l at) c.as_slice.ensures.value c.free_place-inside.ensures in
    (free, free_is_empty places at free (omega (arith, c.if-inside-len.true, c.len.ensures)))

pub returns-else-inside-len-clause-free : goal.returns-else-inside-len-clause-free
returns-else-inside-len-clause-free g c =
    let places = c.args.inside.now.seats.places.items in
    let at = c.free_place-inside.result in
    let free = subst (λ l. IsFirstFree l at) c.as_slice.ensures.value c.free_place-inside.ensures in
    all_taken places at free (omega (arith, c.if-inside-len.false, c.len.ensures))

pub returns-then-inside-len-clause-whole : goal.returns-then-inside-len-clause-whole
returns-then-inside-len-clause-whole g c =
    let old = c.args.inside.now in
    let free = subst (λ l. IsFirstFree l c.free_place-inside.result) c.as_slice.ensures.value
    c.free_place-inside.ensures in
    whole_same g.M.Machine.agrees g.M.Machine.wants old _ c.requires.whole c.requires.whole.standing
    (same_seats old.seats) refl refl free.first free.within

pub returns-else-inside-len-clause-whole : goal.returns-else-inside-len-clause-whole
returns-else-inside-len-clause-whole g c =
    let old = c.args.inside.now in
    let free = subst (λ l. IsFirstFree l c.free_place-inside.result) c.as_slice.ensures.value
    c.free_place-inside.ensures in
    whole_same g.M.Machine.agrees g.M.Machine.wants old _ c.requires.whole c.requires.whole.standing
    (same_seats old.seats) refl refl free.first free.within
