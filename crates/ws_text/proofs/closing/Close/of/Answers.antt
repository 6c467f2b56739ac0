-- What a `str` and an allowed code make may be said.
use Rattle.std.proofs.Common.{ℕ, ◌∙◌, ◌≤◌, List, length, subst, sym}
use Rattle.ws_text.specs.Text.{IsText}
use Rattle.ws_text.proofs.Texts.{text_from_utf8}
use Rattle.ws_text.proofs.closing.Close.of.Goals as goal

pub invariant_of-result : goal.invariant_of-result
invariant_of-result c =
    let kept = sym (c.of.ensures ∙ c.as_bytes.ensures.value) in
    record {
      code = c.requires.0;
      reason = subst (λ (l : List ℕ). IsText l) kept (text_from_utf8 _ c.utf8.reason);
      short = subst (λ (l : List ℕ). length l ≤ 123) kept c.requires.1;
    }
