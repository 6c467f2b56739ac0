-- One member that was offered, and one that was not.
use Rattle.std.proofs.Common.{rules, ◌≡◌, ◌∷◌, [], ◌∙◌, sym, ap, refl, List, ℕ, Bor, map}
use Rattle.ws_upgrade.specs.Members.{members_of}
use Rattle.ws_upgrade.proofs.ProtocolLemmas.{first_place, no_place, one_named, other_named}
use Rattle.ws_upgrade.proofs.headers.Headers.only_offered.Goals as goal

pub returns-in-Some-place_of : goal.returns-in-Some-place_of
returns-in-Some-place_of c =
    let now = (λ (other : Bor (List ℕ)). other.now) in
    let members = members_of c.args.name.now c.args.self.now in
    let member = c.in-Some.member.now in
    let place = c.in-Some-place_of.place in
    let none : c.next.new.self ≡ [] = search rules in
    let are : members ≡ member ∷ [] =
    sym c.members-members.ensures ∙ c.in-Some.ensures.steps
    ∙ ap (λ (others : List (List ℕ)). member ∷ others) none in
    one_named (map now c.args.offers.now) members member place are
    (first_place now member c.args.offers.now place (sym c.in-Some-place_of.ensures))

pub returns-in-None : goal.returns-in-None
returns-in-None c =
    let now = (λ (other : Bor (List ℕ)). other.now) in
    let members = members_of c.args.name.now c.args.self.now in
    let member = c.in-Some.member.now in
    let others = c.next.new.self in
    let are : members ≡ member ∷ others = sym c.members-members.ensures ∙ c.in-Some.ensures.steps in
    let unknown = no_place now member c.args.offers.now (sym c.in-None.ensures) in
    (refl, other_named (map now c.args.offers.now) members member others are unknown)
