-- Where no end is none is asked.
use Rattle.ws_relays.proofs.EndPlaceLemmas.{bare_rests}
use Rattle.ws_relays.proofs.ends.Ends.put.Goals as goal

pub rest-requires : goal.rest-requires
rest-requires g c = record { slotless = bare_rests _ c.args.at c.requires.none }
