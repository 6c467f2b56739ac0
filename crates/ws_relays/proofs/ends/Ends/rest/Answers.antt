-- What stands beside the place is what is seen there.
use Rattle.std.proofs.Common.{rules}
use Rattle.std.proofs.lemmas.Option.{slice_get_within}
use Rattle.ws_loops.specs.declared.places.Place.TheVariants.{Pending}
use Rattle.ws_relays.proofs.EndPlaceLemmas.{seen_set, slotless, within_all}
use Rattle.ws_relays.proofs.ends.Ends.rest.Goals as goal

pub index_mut-requires : goal.index_mut-requires
index_mut-requires g c =
    let within = within_all c.self.inside.all.places c.self.inside.beside.items c.args.self.now c.self.view_is c.args.at
    (slice_get_within c.args.self.now c.args.at c.requires.slotless.0 c.requires.slotless.1) in search (rules, within)

pub watch-requires : goal.watch-requires
watch-requires g c = record {
  slotless = slotless c.self.inside.all.places c.self.inside.beside.items c.args.self.now c.self.view_is c.args.at
      c.requires.slotless;
}

pub returns : goal.returns
returns g c = record {
  rests = seen_set c.self.inside.all.places c.self.inside.beside.items c.args.self.now c.self.view_is c.args.at
      c.watch.new.self.places (Pending _) c.args.beside c.watch.ensures.watched;
}
