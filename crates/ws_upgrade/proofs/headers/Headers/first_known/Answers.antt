-- The choice among the members, from the last one back.
use Rattle.std.proofs.Common.{List, ℕ, Bor, Some, None, map, subst, sym}
use Rattle.ws_upgrade.specs.Protocols.{IsChoice}
use Rattle.ws_upgrade.proofs.ProtocolLemmas.{choice_of-nothing, choice_of-first, choice_of-others, first_place, no_place}
use Rattle.ws_upgrade.proofs.headers.Headers.first_known.Goals as goal

pub loop-member-preserved : goal.loop-member-preserved
loop-member-preserved c = λ choice is.
    let now = (λ (other : Bor (List ℕ)). other.now) in
    let known = map now c.args.known.now in
    let member = c.in-Some.member.now in
    let unknown = no_place now member c.args.known.now (sym c.in_default.ensures) in
    c.loop-member.invariant choice
    (subst (λ (members : List (List ℕ)). IsChoice known members choice) (sym c.in-Some.ensures.steps)
    (choice_of-others known member c.next.new.self choice unknown is))

pub returns-in-Some-place_of : goal.returns-in-Some-place_of
returns-in-Some-place_of c =
    let now = (λ (other : Bor (List ℕ)). other.now) in
    let known = map now c.args.known.now in
    let member = c.in-Some.member.now in
    let place = c.in-Some-place_of.place in
    let first = first_place now member c.args.known.now place (sym c.in-Some-place_of.ensures) in
    c.loop-member.invariant (Some place)
    (subst (λ (members : List (List ℕ)). IsChoice known members (Some place)) (sym c.in-Some.ensures.steps)
    (choice_of-first known member c.next.new.self place first))

pub returns : goal.returns
returns c =
    let known = map (λ (other : Bor (List ℕ)). other.now) c.args.known.now in
    c.loop-member.invariant None
    (subst (λ (members : List (List ℕ)). IsChoice known members None) (sym c.in-None.ensures.steps.0)
    (choice_of-nothing known))
