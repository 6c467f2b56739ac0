-- Name after name: no two of the names so far are equal.
use Rattle.std.proofs.Common.{map}
use Rattle.ws_upgrade.proofs.ProtocolLemmas.{AreDistinctBelow}
use Rattle.ws_upgrade.proofs.protocols.are_distinct.Given as goal

-- no two of the names that were passed by are equal
abbrev pub invariant-loop-place : goal.invariant-loop-place
invariant-loop-place l = AreDistinctBelow l.place (map (λ name. name.now) l.names)
