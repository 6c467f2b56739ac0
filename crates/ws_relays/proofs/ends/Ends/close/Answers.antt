-- What stood in the place is taken out, and nothing is beside it.
use Rattle.ws_relays.specs.EndPlaces.{FreePlace, KeptPlace}
use Rattle.ws_relays.proofs.EndPlaceLemmas.{lifted_free, put_so, within_places}
use Rattle.ws_relays.proofs.ends.Ends.close.Goals as goal

pub lift-requires : goal.lift-requires
lift-requires g c = record {
  at = within_places c.self.inside.all.places c.self.inside.beside.items c.args.self.now c.self.view_is c.args.at
      c.requires;
}

pub rest-requires : goal.rest-requires
rest-requires g c = record {
  slotless = (
    FreePlace,
    lifted_free c.self.inside.all.places c.self.inside.beside.items c.args.self.now c.self.view_is c.args.at
        c.lift.new.self.places c.lift.ensures.empty c.requires,
    tt,
  );
}

pub returns : goal.returns
returns g c = record {
  kept = put_so c.self.inside.all.places c.self.inside.beside.items c.args.self.now c.self.view_is c.args.at
      c.lift.new.self.places c.rest.new.self KeptPlace c.lift.ensures.empty c.requires c.rest.ensures.rests;
}
