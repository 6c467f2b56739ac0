-- A key turned to a phase has in each lane the key byte of that place.
use Rattle.std.proofs.Common.{refl}
use Rattle.ws_wire.proofs.Masks.{once}
use Rattle.ws_wire.proofs.masking.turned_key.Goals as goal

pub returns-clause-lanes : goal.returns-clause-lanes
returns-clause-lanes c = once c.args.key c.args.phase _ _ _ _ c.requires refl refl refl refl
