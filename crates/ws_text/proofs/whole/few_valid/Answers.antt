-- The front that is answered is a text, and no longer one is: all of the bytes, or as far as they are valid.
use Rattle.std.proofs.Common.{◌<◌, ℕ, List, length, take, arith, ap, inl, inr, sym, subst}
use Rattle.std.proofs.lemmas.Bool.{cases_lt}
use Rattle.std.proofs.lemmas.List.{take_all}
use Rattle.ws_text.specs.Text.{IsText}
use Rattle.ws_text.proofs.Texts.{text_from_utf8, utf8_from_text}
use Rattle.ws_text.proofs.whole.few_valid.Goals as goal

pub returns-in-Ok-clause-text : goal.returns-in-Ok-clause-text
returns-in-Ok-clause-text c =
    let bytes = c.args.bytes.now in
    subst (λ n. IsText (take n bytes)) (sym (ap (λ (l : List ℕ). length l) c.in-Ok.ensures.cases.0)) (subst (λ (l : List ℕ). IsText l) (sym (take_all (length bytes) bytes (omega arith))) (text_from_utf8 _ c.in-Ok.ensures.cases.1))

pub returns-in-Err-clause-text : goal.returns-in-Err-clause-text
returns-in-Err-clause-text c =
    let bytes = c.args.bytes.now in
    subst (λ n. IsText (take n bytes)) (sym c.valid_up_to.ensures) (text_from_utf8 _ c.in-Err.ensures.cases.1.front)

pub returns-in-Err-clause-longest : goal.returns-in-Err-clause-longest
returns-in-Err-clause-longest c = λ len within text.
    elim (cases_lt c.valid_up_to.result len) [
      | inl longer ↦ absurd (c.in-Err.ensures.cases.1.longest len (subst (λ n. n < len) c.valid_up_to.ensures longer) (utf8_from_text _ text))
      | inr no_longer ↦ no_longer
    ]
