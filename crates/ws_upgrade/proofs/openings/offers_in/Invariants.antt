-- Name after name: those that were pushed and those that are left are the subprotocols.
use Rattle.std.proofs.Common.{◌≡◌, ◌++◌, map}
use Rattle.ws_upgrade.specs.Protocols.{protocols_in}
use Rattle.ws_upgrade.proofs.openings.offers_in.Given as goal

abbrev pub invariant-loop-name : goal.invariant-loop-name
invariant-loop-name l =
    map (λ name. name.now) l.offers.items ++ l.name-iterator ≡ protocols_in l.headers
