-- The response names what was chosen among the subprotocols that are known.
use Rattle.std.proofs.Common.{◌≡◌, ◌∙◌, ap, map, List, ℕ, Bor, Option}
use Rattle.ws_upgrade.specs.Protocols.{name_chosen}
use Rattle.ws_upgrade.specs.Texts.{response_text}
use Rattle.wst_services.proofs.head.answer.Goals as goal

pub returns-in_ok-text-in-Accepted : goal.returns-in_ok-text-in-Accepted
returns-in_ok-text-in-Accepted g c =
    let known = map (λ (name : Bor (List ℕ)). name.now) c.args.known.now in
    let accept = c.in-Accepted.accept in
    let place = c.in-Accepted.protocol in
    let text : c.as_slice.result.now ≡ response_text accept (name_chosen known place) =
    c.as_slice.ensures.value ∙ c.in_ok-text-in-Accepted.ensures
    ∙ ap (λ (name : Option (List ℕ)). response_text accept name)
    (c.chosen-chosen.ensures ∙ ap (λ (names : List (List ℕ)). name_chosen names place) c.proved.ensures) in
    rw (c.in-Accepted.is) (rw text at c.deliver.ensures)
