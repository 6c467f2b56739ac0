-- A name that is first found at its own place differs from those before it; one found earlier stands twice.
use Rattle.std.proofs.Common.{rules, ◌≡◌, ◌∙◌, sym, List, ℕ, Bor, Some, map}
use Rattle.ws_upgrade.proofs.ProtocolLemmas.{AreDistinctBelow-more, first_elsewhere, first_place, place_or_none, text_at}
use Rattle.ws_upgrade.proofs.protocols.are_distinct.Goals as goal

pub loop-place-preserved : goal.loop-place-preserved
loop-place-preserved c =
    let here : c.place_of.result ≡ Some c.loop-place.place = search rules in
    AreDistinctBelow-more (map (λ (other : Bor (List ℕ)). other.now) c.args.names.now) _ c.loop-place.place
    (first_place (λ (other : Bor (List ℕ)). other.now) _ c.args.names.now c.loop-place.place (sym c.place_of.ensures ∙ here)) c.loop-place.invariant

pub returns-then-ne : goal.returns-then-ne
returns-then-ne c =
    let elsewhere : ¬ (c.place_of.result ≡ Some c.loop-place.place) = search rules in (
      (λ yes i j d lt within same. cc),
      (λ distinct. absurd (first_elsewhere (map (λ (other : Bor (List ℕ)). other.now) c.args.names.now) _ c.loop-place.place c.place_of.result
          (place_or_none (λ (other : Bor (List ℕ)). other.now) _ c.args.names.now c.place_of.result c.place_of.ensures)
          (text_at (λ (other : Bor (List ℕ)). other.now) c.args.names.now c.loop-place.place _ c.loop-place-test.true) elsewhere distinct)),
    )
