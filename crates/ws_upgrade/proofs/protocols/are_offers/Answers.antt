-- Names can be offered exactly where they are few, each is a right name, and no two are equal.
use Rattle.std.proofs.Common.{rules, List, ℕ, Bor, ◌≤◌, length, map, IsTrue}
use Rattle.std.proofs.Math.ListN.{length-map}
use Rattle.std.proofs.lemmas.List.Elements.{All-map}
use Rattle.ws_upgrade.specs.Protocols.{IsProtocolName}
use Rattle.ws_upgrade.proofs.ProtocolLemmas.{All-unmap, offers_iff}
use Rattle.ws_upgrade.proofs.protocols.are_offers.Goals as goal

pub returns-then-not-are_names : goal.returns-then-not-are_names
returns-then-not-are_names c = (
  (λ yes. absurd cc),
  (λ offers.
      let right : IsTrue c.are_names.result = c.are_names.ensures.1 (All-unmap IsProtocolName (λ (other : Bor (List ℕ)). other.now) c.args.names.now offers.valid) in
      search (rules, right)),
)

pub returns : goal.returns
returns c =
    let right : IsTrue c.are_names.result = search rules in
    let few : length (map (λ (other : Bor (List ℕ)). other.now) c.args.names.now) ≤ 16 = rw (length-map c.args.names.now (λ (other : Bor (List ℕ)). other.now)) (search rules) in
    offers_iff (map (λ (other : Bor (List ℕ)). other.now) c.args.names.now) c.are_distinct.result few
    (All-map IsProtocolName (λ (other : Bor (List ℕ)). other.now) c.args.names.now (c.are_names.ensures.0 right)) c.are_distinct.ensures
