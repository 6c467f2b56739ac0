-- Reason after reason: none of those so far applies at the header.
use Rattle.std.proofs.Common.{◌≤◌}
use Rattle.ws_session.specs.declared.reason.Reason.{Reason}
use Rattle.ws_session.specs.Faults.{AppliesAtHeader}
use Rattle.ws_session.proofs.HeaderReasons.{rank_of}
use Rattle.ws_session.proofs.receiver.header_rules.first_reason.Given as goal

-- the reasons so far don't apply
abbrev pub invariant-loop-reason : goal.invariant-loop-reason
invariant-loop-reason l = (other : Reason) → rank_of other ≤ l.reason-index → AppliesAtHeader l.role l.limits l.assembly.opened l.header other → ⊥
