-- It is there where it has a place.
use Rattle.std.proofs.Common.{◌≡◌, ◌∙◌, ◌-◌, List, ℕ, ap, drop, length, rules, subst, sym, take}
use Rattle.std.proofs.lemmas.List.{take_rest}
use Rattle.ws_suite.specs.InnerUnanswered.{IsPlaceOfPing, payloads_by}
use Rattle.ws_suite.specs.Progress.{is_pong_owed}
use Rattle.ws_suite.proofs.DropLemmas.{is_owed}
use Rattle.ws_suite.proofs.evidence.unanswered.packed.PackedPayloads.contains.Goals as goal

pub returns-in-Some : goal.returns-in-Some
returns-in-Some c =
    let x = c.self.inside in
    let payload = c.args.payload.now in
    let all = c.as_slice.result.now in
    let is : all ≡ x.bytes.items = search rules in
    let there : take (length all - x.gone) (drop x.gone all) ≡ drop x.gone x.bytes.items =
    take_rest all x.gone ∙ ap (λ (l : List ℕ). drop x.gone l) is in
    sym (ap (λ (l : List (List ℕ)). is_pong_owed payload l) (sym c.self.view_is)
    ∙ is_owed x.lens.items x.bytes.items x.gone payload c.in-Some.field-0 c.self.invariant
    (subst (λ (l : List ℕ). IsPlaceOfPing payload x.lens.items l c.in-Some.field-0) there c.in-Some.ensures.first))
