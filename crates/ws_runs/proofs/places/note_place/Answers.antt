-- The name has the last place, and the others keep theirs.
use Rattle.std.proofs.Common.{Some}
use Rattle.std.proofs.lemmas.Map.Text.{btree_map_updates_str}
use Rattle.ws_runs.proofs.PlaceLemmas.{places_pushed}
use Rattle.ws_runs.proofs.places.note_place.Goals as goal

pub returns-clause-noted : goal.returns-clause-noted
returns-clause-noted c = λ names are none count.
    places_pushed names c.args.name.now c.args.place c.args.places.now c.insert.new.self
    (btree_map_updates_str c.args.name.now c.args.places.now c.insert.new.self (Some c.args.place)
    c.in_ok-insert.ensures.updates) are none count
