-- It is emptied, and then this is put there.
use Rattle.std.proofs.Common.{◌∙◌, ap, slice_set, subst}
use Rattle.std.specs.List.{slice_get}
use Rattle.std.proofs.lemmas.Option.{slice_get_within}
use Rattle.ws_loops.specs.Places.{KeepTurns}
use Rattle.ws_loops.specs.declared.places.Place.TheVariants.{Empty, Open}
use Rattle.ws_loops.proofs.PlaceLemmas.{get_set_same, set_twice}
use Rattle.ws_loops.proofs.looping.put_anew.Goals as goal

pub empty_inside-requires-clause-at : goal.empty_inside-requires-clause-at
empty_inside-requires-clause-at g c =
    let (place, is, slotless) = c.requires.slotless in
    slice_get_within c.args.inside.now.seats.places.items c.args.at place is

pub put_inside-requires-clause-empty : goal.put_inside-requires-clause-empty
put_inside-requires-clause-empty g c =
    let (place, is, slotless) = c.requires.slotless in
    let places = c.args.inside.now.seats.places.items in
    ap (λ l. slice_get l c.args.at) c.empty_inside.ensures.empty
    ∙ get_set_same places c.args.at Empty (slice_get_within places c.args.at place is)

pub returns-clause-put : goal.returns-clause-put
returns-clause-put g c = c.put_inside.ensures.put ∙ (ap (λ l. slice_set l c.args.at (Open c.args.slot)) c.empty_inside.ensures.empty
    ∙ set_twice c.args.inside.now.seats.places.items c.args.at Empty (Open c.args.slot))

pub returns-clause-turns : goal.returns-clause-turns
returns-clause-turns g c = subst (λ l. KeepTurns l c.put_inside.new.inside.seats.tickets.items) c.empty_inside.ensures.turns
    c.put_inside.ensures.turns
