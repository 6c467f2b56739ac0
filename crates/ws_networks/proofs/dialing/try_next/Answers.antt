-- One address after the other: one has taken it, is waited for, or none is left.
use Rattle.std.proofs.Common.{◌∙◌, [], ap, arith, subst, sym}
use Rattle.std.specs.List.{slice_get}
use Rattle.ws_networks.specs.Connecting.{HasTriedOne, IfTried}
use Rattle.ws_networks.specs.declared.dialing.Tried.{Tried}
use Rattle.ws_networks.proofs.DialLemmas.{next_made, next_missed, next_none, next_waits, none_tried}
use Rattle.ws_networks.proofs.dialing.try_next.Goals as goal

pub loop-tries-init : goal.loop-tries-init
loop-tries-init g c = none_tried g.N.Network.did c.args.at c.args.now c.args.tries c.args.network.now

pub returns-in-Made-clause-dialled : goal.returns-in-Made-clause-dialled
returns-in-Made-clause-dialled g c =
    let tries = c.loop-tries.tries in
    let is = ap (λ l. slice_get l tries.missed) (sym c.as_slice.ensures.value) ∙ c.address_at-address.ensures in
    next_made g.N.Network.did c.args.at c.args.now c.args.tries tries c.address_at-address.result c.in-Made.stream
    c.args.network.now c.loop-tries.network c.try_address.new.network c.loop-tries.invariant is
    (subst (λ (t : Tried g.row.N-Stream.Denot g.row.N-Miss.Denot). HasTriedOne g.N.Network.did c.args.at tries.bounds
    c.args.now c.loop-tries.network c.try_address.new.network c.address_at-address.result t) c.in-Made.is
    c.try_address.ensures.tried)

pub returns-in-Waits-clause-dialled : goal.returns-in-Waits-clause-dialled
returns-in-Waits-clause-dialled g c =
    let tries = c.loop-tries.tries in
    let is = ap (λ l. slice_get l tries.missed) (sym c.as_slice.ensures.value) ∙ c.address_at-address.ensures in
    next_waits g.N.Network.did c.args.at c.args.now c.args.tries tries c.address_at-address.result c.in-Waits.stream
    c.args.network.now c.loop-tries.network c.try_address.new.network c.loop-tries.invariant is
    (subst (λ (t : Tried g.row.N-Stream.Denot g.row.N-Miss.Denot). HasTriedOne g.N.Network.did c.args.at tries.bounds
    c.args.now c.loop-tries.network c.try_address.new.network c.address_at-address.result t) c.in-Waits.is
    c.try_address.ensures.tried)

pub returns-in-Made-clause-fresh : goal.returns-in-Made-clause-fresh
returns-in-Made-clause-fresh g c = subst (λ (t : Tried g.row.N-Stream.Denot g.row.N-Miss.Denot). IfTried t
    (λ s. g.N.Stream.NonBlocking.did s s [])) c.in-Made.is c.try_address.ensures.fresh

pub returns-in-Waits-clause-fresh : goal.returns-in-Waits-clause-fresh
returns-in-Waits-clause-fresh g c = subst (λ (t : Tried g.row.N-Stream.Denot g.row.N-Miss.Denot). IfTried t
    (λ s. g.N.Stream.NonBlocking.did s s [])) c.in-Waits.is c.try_address.ensures.fresh

pub returns-in-Waits-clause-within : goal.returns-in-Waits-clause-within
returns-in-Waits-clause-within g c = (
  c.address_at-address.result,
  ap (λ l. slice_get l c.loop-tries.tries.missed) (sym c.as_slice.ensures.value) ∙ c.address_at-address.ensures,
)

pub past-tries-requires : goal.past-tries-requires
past-tries-requires g c = omega (arith, c.loop-tries-test.true, c.len.ensures)

pub loop-tries-preserved : goal.loop-tries-preserved
loop-tries-preserved g c =
    let tries = c.loop-tries.tries in
    let is = ap (λ l. slice_get l tries.missed) (sym c.as_slice.ensures.value) ∙ c.address_at-address.ensures in
    next_missed g.N.Network.did c.args.at c.args.now g.row.N-Stream.Denot c.args.tries tries c.past-tries.result c.address_at-address.result
    c.in-Missed.why c.args.network.now c.loop-tries.network c.try_address.new.network c.loop-tries.invariant is
    (subst (λ (t : Tried g.row.N-Stream.Denot g.row.N-Miss.Denot). HasTriedOne g.N.Network.did c.args.at tries.bounds
    c.args.now c.loop-tries.network c.try_address.new.network c.address_at-address.result t) c.in-Missed.is
    c.try_address.ensures.tried) c.past-tries.ensures

pub returns-clause-dialled : goal.returns-clause-dialled
returns-clause-dialled g c = next_none g.N.Network.did c.args.at c.args.now c.args.tries c.loop-tries.tries
    c.args.network.now c.loop-tries.network c.loop-tries.invariant
    (omega (arith, c.loop-tries-test.false, c.len.ensures))
