-- The front that is answered is a text: all before a last character that may be unfinished, or as far as it is valid.
use Rattle.std.proofs.Common.{◌≡◌, ◌≤◌, ℕ, ◌∙◌, List, take, length, arith, sym, ap, subst}
use Rattle.std.proofs.lemmas.List.{length-take-le, take-take}
use Rattle.ws_text.specs.Text.{IsText}
use Rattle.ws_text.proofs.Texts.{text_from_utf8}
use Rattle.ws_text.proofs.whole.valid_prefix.Goals as goal

pub returns-in-Ok-clause-text : goal.returns-in-Ok-clause-text
returns-in-Ok-clause-text c =
    let same : length c.in-Ok.text.now ≡ c.last_start.result = ap length c.in-Ok.ensures.cases.0 ∙ length-take-le _ _ c.last_start.ensures in
    subst (λ n. IsText (take n c.args.bytes.now)) (sym same) (text_from_utf8 _ c.in-Ok.ensures.cases.1)

pub returns-in-Err-clause-text : goal.returns-in-Err-clause-text
returns-in-Err-clause-text c =
    let valid = c.in-Err.ensures.cases.1 in
    let front : c.valid_up_to.result ≤ c.last_start.result = omega (arith, valid.short, length-take-le c.last_start.result c.args.bytes.now c.last_start.ensures) in
    subst (λ (l : List ℕ). IsText l) (take-take c.valid_up_to.result c.last_start.result c.args.bytes.now front) (subst (λ n. IsText (take n (take c.last_start.result c.args.bytes.now))) (sym c.valid_up_to.ensures) (text_from_utf8 _ valid.front))

pub returns-then-front-lt-LANES-clause-text : goal.returns-then-front-lt-LANES-clause-text
returns-then-front-lt-LANES-clause-text c =
    let front : c.few_valid.result ≤ c.last_start.result = omega (arith, c.few_valid.ensures.within, length-take-le c.last_start.result c.args.bytes.now c.last_start.ensures) in
    subst (λ (l : List ℕ). IsText l) (take-take c.few_valid.result c.last_start.result c.args.bytes.now front) c.few_valid.ensures.text
