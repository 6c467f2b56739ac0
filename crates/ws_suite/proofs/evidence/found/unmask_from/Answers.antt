-- The phase counts modulo 4.
use Rattle.std.proofs.Common.{◌≡◌, ◌∙◌, List, Option, Some, ap, rules, sym, ℕ}
use Rattle.ws_session.specs.InnerMasked.{masked_from}
use Rattle.ws_session.proofs.MaskedParts.{masked_from_phase}
use Rattle.ws_suite.proofs.evidence.found.unmask_from.Goals as goal

pub returns-in-Some : goal.returns-in-Some
returns-in-Some c =
    let some = Some c.in-Some.key in
    let is : c.args.key ≡ some = search rules in
    c.mask.ensures.bytes ∙ (masked_from_phase some c.args.skipped c.args.part.now
    ∙ ap (λ (o : Option (List ℕ)). masked_from o c.args.skipped c.args.part.now) (sym is))
