-- It is emptied, and then this is put there.
use Rattle.std.proofs.Common.{◌∙◌, ap, slice_set, subst}
use Rattle.std.specs.List.{slice_get}
use Rattle.std.proofs.lemmas.Option.{slice_get_within}
use Rattle.ws_loops.specs.Places.{KeepTurns}
use Rattle.ws_loops.specs.declared.places.Place.TheVariants.{Empty, Pending}
use Rattle.ws_loops.proofs.PlaceLemmas.{get_set_same, set_twice}
use Rattle.ws_loops.proofs.looping.watch_anew.Goals as goal

pub empty_inside-requires-clause-at : goal.empty_inside-requires-clause-at
empty_inside-requires-clause-at g c =
    let (place, is, slotless) = c.requires.slotless in
    slice_get_within c.args.inside.now.seats.places.items c.args.at place is

pub watch_inside-requires-clause-empty : goal.watch_inside-requires-clause-empty
watch_inside-requires-clause-empty g c =
    let (place, is, slotless) = c.requires.slotless in
    let places = c.args.inside.now.seats.places.items in
    ap (λ l. slice_get l c.args.at) c.empty_inside.ensures.empty
    ∙ get_set_same places c.args.at Empty (slice_get_within places c.args.at place is)

pub returns-clause-watched : goal.returns-clause-watched
returns-clause-watched g c = c.watch_inside.ensures.watched ∙ (ap (λ l. slice_set l c.args.at (Pending c.args.watch)) c.empty_inside.ensures.empty
    ∙ set_twice c.args.inside.now.seats.places.items c.args.at Empty (Pending c.args.watch))

pub returns-clause-turns : goal.returns-clause-turns
returns-clause-turns g c = subst (λ l. KeepTurns l c.watch_inside.new.inside.seats.tickets.items) c.empty_inside.ensures.turns
    c.watch_inside.ensures.turns
