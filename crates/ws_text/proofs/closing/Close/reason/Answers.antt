-- The reason of a close is text, as its invariant says.
use Rattle.std.proofs.Common.{subst, sym, List, ℕ}
use Rattle.ws_text.specs.Text.{IsText}
use Rattle.ws_text.proofs.Texts.{utf8_from_text}
use Rattle.ws_text.proofs.Closes.{is_ok_of}
use Rattle.ws_text.proofs.closing.Close.reason.Goals as goal

pub unwrap-requires : goal.unwrap-requires
unwrap-requires c =
    let text : IsText c.as_slice.result.now =
    subst (λ (l : List ℕ). IsText l) (sym c.as_slice.ensures.bytes) c.self.invariant.reason in
    is_ok_of c.from_utf8.result _ _ c.from_utf8.ensures.cases (utf8_from_text _ text)
