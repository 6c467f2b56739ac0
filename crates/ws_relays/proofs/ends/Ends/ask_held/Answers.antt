-- Nothing is asked of the end, which is held; or something is, and nothing has happened.
use Rattle.std.proofs.Common.{refl, rules}
use Rattle.ws_relays.specs.EndPlaces.{AsksNothing, FreePlace}
use Rattle.ws_relays.proofs.EndPlaceLemmas.{asked_nothing, asked_some, slotless}
use Rattle.ws_relays.proofs.ends.Ends.ask_held.Goals as goal

pub returns-then-is_nothing : goal.returns-then-is_nothing
returns-then-is_nothing g c =
    let nothing : AsksNothing c.args.ask = search rules in record {
      asked = asked_nothing g.S.NonBlocking.did c.args.at c.args.ask c.args.self.now c.rest.new.self c.args.stream
          c.requires.free c.rest.ensures.rests nothing;
    }

pub open-requires-clause-slotless : goal.open-requires-clause-slotless
open-requires-clause-slotless g c = slotless c.self.inside.all.places c.self.inside.beside.items c.args.self.now
    c.self.view_is c.args.at (FreePlace, c.requires.free, tt)

pub returns : goal.returns
returns g c = record {
  asked = asked_some g.S.NonBlocking.did c.args.at c.args.ask c.self.inside.all.places c.open.new.self.places
      c.self.inside.beside.items c.args.self.now _ c.self.view_is c.requires.free c.open.ensures.put
      (record {
        bytes = c.new.ensures.bytes;
        room = c.new.ensures.room;
        ends = c.new.ensures.ends;
        none = c.new.ensures.happened;
      }) c.new.ensures.untold (refl, refl);
}
