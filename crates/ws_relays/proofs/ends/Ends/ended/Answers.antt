-- What has happened at the end is told, which is held then; or the place is as it was.
use Rattle.std.proofs.Common.{◌∙◌, Some, ap, slice_set}
use Rattle.ws_loops.specs.declared.places.Place.TheVariants.{Pending}
use Rattle.ws_relays.specs.EndPlaces.{FreePlace, HeldEnd, resting}
use Rattle.ws_relays.proofs.EndPlaceLemmas.{both_free, both_lifted, happened_so, lifted_free, put_so, seen_at}
use Rattle.ws_relays.proofs.EndPlaceLemmas.{seen_slot, stirred_so, within_all, within_places}
use Rattle.ws_relays.proofs.ends.Ends.ended.Goals as goal

pub lift-requires : goal.lift-requires
lift-requires g c = record {
  at = within_places c.self.inside.all.places c.self.inside.beside.items c.args.self.now c.self.view_is c.args.at
      c.requires.at;
}

pub rest-requires : goal.rest-requires
rest-requires g c = record {
  slotless = (
    FreePlace,
    lifted_free c.self.inside.all.places c.self.inside.beside.items c.args.self.now c.self.view_is c.args.at
        c.lift.new.self.places c.lift.ensures.empty c.requires.at,
    tt,
  );
}

pub into_end-requires : goal.into_end-requires
into_end-requires g c = c.requires.over c.in-Open.slot
    (seen_slot c.self.inside.all.places c.self.inside.beside.items c.args.self.now c.self.view_is c.args.at
    c.in-Open.slot
    c.requires.at (c.lift.ensures.lifted ∙ ap (λ p. Some p) c.in-Open.is))

pub taken_from-beside-requires : goal.taken_from-beside-requires
taken_from-beside-requires g c = within_all c.self.inside.all.places c.self.inside.beside.items c.args.self.now
    c.self.view_is c.args.at c.requires.at

pub stirred-requires : goal.stirred-requires
stirred-requires g c = record {
  lifted = both_free c.self.inside.all.places c.self.inside.beside.items c.args.self.now c.self.view_is c.args.at
      c.lift.new.self.places c.taken_from-beside.new.all.items c.lift.ensures.empty c.taken_from-beside.ensures.nothing
      c.requires.at;
}

pub returns-in_ok-happened-in-Open-clause-came : goal.returns-in_ok-happened-in-Open-clause-came
returns-in_ok-happened-in-Open-clause-came g c =
    happened_so g.S.NonBlocking.did c.args.at c.args.self.now c.rest.new.self g.row.W.Denot c.in-Open.slot
    c.in_ok-happened-in-Open.happened
    (seen_slot c.self.inside.all.places c.self.inside.beside.items c.args.self.now c.self.view_is c.args.at
    c.in-Open.slot
    c.requires.at (c.lift.ensures.lifted ∙ ap (λ p. Some p) c.in-Open.is))
    (put_so c.self.inside.all.places c.self.inside.beside.items c.args.self.now c.self.view_is c.args.at
    c.lift.new.self.places c.rest.new.self (HeldEnd c.in-Open.slot.stream) c.lift.ensures.empty c.requires.at
    c.rest.ensures.rests) c.in_ok-happened-in-Open.ensures

pub returns-in-Pending-clause-came : goal.returns-in-Pending-clause-came
returns-in-Pending-clause-came g c =
    stirred_so g.S.NonBlocking.did c.args.at c.args.self.now c.stirred.new.self c.taken_from-beside.result
    c.stirred.result
    (seen_at c.self.inside.all.places c.self.inside.beside.items c.args.self.now c.self.view_is c.args.at
    (Pending c.in-Pending.field-0) c.taken_from-beside.result
    (c.lift.ensures.lifted ∙ ap (λ p. Some p) c.in-Pending.is) c.taken_from-beside.ensures.taken)
    (c.stirred.ensures.rests ∙ ap (λ l. slice_set l c.args.at (resting c.taken_from-beside.result))
    (both_lifted c.self.inside.all.places c.self.inside.beside.items c.args.self.now c.self.view_is c.args.at
    c.lift.new.self.places c.taken_from-beside.new.all.items c.lift.ensures.empty
    c.taken_from-beside.ensures.nothing)) c.stirred.ensures.stirred
