-- The cut is at the quote.
use Rattle.std.proofs.Common.{rules, ◌≡◌, ◌∙◌, ◌+◌, ap, sym, ℕ, List, Option, Some, take}
use Rattle.std.proofs.lemmas.List.{take_rest}
use Rattle.wst_commands.specs.StepDamages.{closing_quote, cut_by}
use Rattle.wst_commands.proofs.step_damages.cut_at_quote.Goals as goal

pub returns : goal.returns
returns c =
    let bytes = c.args.bytes.now in
    let at = c.in_ok-at.at in
    let found : closing_quote bytes ≡ Some at = search rules in
    ap (λ (o : Option ℕ). cut_by o bytes) found
    ∙ sym (ap (λ (l : List ℕ). Some (take at bytes, l)) (take_rest bytes (at + 1)))
