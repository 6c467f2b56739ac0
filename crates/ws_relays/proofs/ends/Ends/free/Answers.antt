-- What stood in the place is taken out, and the place is free.
use Rattle.std.proofs.Common.{rules}
use Rattle.ws_loops.specs.declared.places.Place.TheVariants.{Empty}
use Rattle.ws_relays.specs.declared.ends.Beside.TheVariants.{Nothing}
use Rattle.ws_relays.proofs.EndPlaceLemmas.{seen_set, within_all, within_places}
use Rattle.ws_relays.proofs.ends.Ends.free.Goals as goal

pub take-requires : goal.take-requires
take-requires g c = record {
  at = within_places c.self.inside.all.places c.self.inside.beside.items c.args.self.now c.self.view_is c.args.at
      c.requires;
}

pub index_mut-requires : goal.index_mut-requires
index_mut-requires g c =
    let within = within_all c.self.inside.all.places c.self.inside.beside.items c.args.self.now c.self.view_is c.args.at
    c.requires in
    search (rules, within)

pub returns : goal.returns
returns g c = record {
  free = seen_set c.self.inside.all.places c.self.inside.beside.items c.args.self.now c.self.view_is c.args.at
      c.take.new.self.places Empty Nothing c.take.ensures.empty;
}
