-- The first text of the name is found.
use Rattle.std.proofs.Common.{◌∙◌, ℕ, List, ap, rules, sym}
use Rattle.std.specs.Str.{bytes_eq}
use Rattle.ws_pages.proofs.Namings.{named_here}
use Rattle.ws_pages.proofs.named_text.text_named.Goals as goal

pub returns-then-eq : goal.returns-then-eq
returns-then-eq c =
    c.as_slice-then-eq.ensures
    ∙ named_here c.args.texts.now c.loop-text.text-index c.text-item.result c.args.name.now _ (search rules)
    c.text-item.is
    (sym (ap (λ (n : List ℕ). bytes_eq n c.args.name.now) c.as_slice.ensures) ∙ sym c.eq.ensures ∙ c.if-eq.true)
    c.loop-text.invariant
