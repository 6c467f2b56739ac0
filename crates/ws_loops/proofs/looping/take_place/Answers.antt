-- What stood there is handed out.
use Rattle.ws_loops.proofs.PlaceLemmas.{read_place}
use Rattle.ws_loops.proofs.looping.take_place.Goals as goal

pub returns-clause-taken : goal.returns-clause-taken
returns-clause-taken g c = read_place c.args.places.now.items c.args.at c.index_mut.result.now c.replace.result
    c.requires
    c.index_mut.ensures.value c.replace.ensures.value
