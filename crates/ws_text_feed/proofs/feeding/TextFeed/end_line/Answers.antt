-- The value of the line is taken; or the text is damaged at it.
use Rattle.std.proofs.Common.{List, ℕ, ◌≡◌, ◌+◌, ◌∷◌, ◌++◌, [], ◌∙◌, ap, sym, subst}
use Rattle.ws_text_feed.specs.Feeding.{HasFed}
use Rattle.ws_formats.specs.Lines.{Damages, HasLineForEach, line_feed}
use Rattle.ws_base.specs.declared.text_fault.TextFault.TheVariants.{Damaged}
use Rattle.ws_text_feed.proofs.Fed.{damaged_line, one_taken}
use Rattle.ws_text_feed.proofs.feeding.TextFeed.end_line.Goals as goal

pub take_line-requires : goal.take_line-requires
take_line-requires g c =
    let (first, text, h) = c.requires.fed in
    (first, h.values, h.taken)

pub returns-in-Err-Damaged : goal.returns-in-Err-Damaged
returns-in-Err-Damaged g c = λ first text h more.
    let line_of = g.T.TakeValues.is_line_of in
    let old = c.args.self.now in
    subst (λ (n : ℕ). Damages (HasLineForEach line_of) (Damaged n) (text ++ (c.args.end.now ++ line_feed ∷ more)))
    (sym c.take_line.ensures.same)
    (damaged_line line_of g.T.TakeValues.has_taken first text c.args.end.now more old.taker old.partial.items old.number h
    c.requires.line (c.in-Err-Damaged.ensures.taken c.in-Err-Damaged.field-0-is))

pub returns : goal.returns
returns g c = λ first text h.
    let line_of = g.T.TakeValues.is_line_of in
    let taken = g.T.TakeValues.has_taken in
    let old = c.args.self.now in
    let now = c.take_line.new.self in
    let number : c.in-Some.number ≡ old.number + 1 = c.in-Some.ensures.1 ∙ ap (λ n. n + 1) c.take_line.ensures.same in
    let (value, told, more) = c.in-Ok.ensures.taken first h.values h.taken in
    subst (λ (l : List ℕ). HasFed line_of taken first (text ++ (c.args.end.now ++ line_feed ∷ [])) now.taker l c.in-Some.number)
    (sym c.in-Ok.ensures.emptied)
    (one_taken line_of taken first text c.args.end.now old.taker now.taker old.partial.items old.number c.in-Some.number
    value h c.requires.line told more number)
