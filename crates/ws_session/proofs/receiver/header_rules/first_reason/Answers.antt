-- The first reason of the list that applies at a header is its lowest, and where none of them does no reason applies.
use Rattle.std.proofs.Common.{arith}
use Rattle.ws_session.specs.declared.reason.Reason.{Reason}
use Rattle.ws_session.specs.Faults.{AppliesAtHeader}
use Rattle.ws_session.proofs.HeaderReasons.{at_most_eleven, none_before_first, none_before_next, none_is_lower, not_both}
use Rattle.ws_session.proofs.receiver.header_rules.first_reason.Goals as goal

pub returns-then-applies : goal.returns-then-applies
returns-then-applies c = record {
  wrong = c.applies.ensures.0 c.if-applies.true;
  first = none_is_lower (λ (r : Reason). AppliesAtHeader c.args.role c.args.limits c.args.assembly.now.opened c.args.header.now r) c.loop-reason.reason-index c.loop-reason-test.true
      (at_most_eleven c.args.role c.args.limits c.args.assembly.now.opened c.args.header.now) c.loop-reason.invariant;
}

pub loop-reason-preserved : goal.loop-reason-preserved
loop-reason-preserved c = none_before_next (λ (r : Reason). AppliesAtHeader c.args.role c.args.limits c.args.assembly.now.opened c.args.header.now r) c.loop-reason.reason-index c.loop-reason-test.true
    (not_both _ _ c.applies.ensures c.if-applies.false) c.loop-reason.invariant

pub returns : goal.returns
returns c = λ r h. c.loop-reason.invariant r (omega (arith, at_most_eleven c.args.role c.args.limits c.args.assembly.now.opened c.args.header.now r h, c.loop-reason-test.false)) h

pub loop-reason-init : goal.loop-reason-init
loop-reason-init c = none_before_first (λ (r : Reason). AppliesAtHeader c.args.role c.args.limits c.args.assembly.now.opened c.args.header.now r)
