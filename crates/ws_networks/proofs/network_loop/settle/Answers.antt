-- A slot stands there, or a connection is under way, or was missed.
use Rattle.std.proofs.Common.{◌≡◌, List, None, ap, refl, slice_set, subst, sym}
use Rattle.ws_loops.specs.declared.pace.Pace.{Pace}
use Rattle.ws_loops.specs.declared.places.Place.{Place}
use Rattle.ws_loops.specs.declared.places.Place.TheVariants.{Open, Pending}
use Rattle.ws_networks.specs.NetworkLoops.{outbound_by, place_by}
use Rattle.ws_networks.specs.declared.dialing.Dialled.{Dialled}
use Rattle.ws_networks.proofs.network_loop.settle.Goals as goal
