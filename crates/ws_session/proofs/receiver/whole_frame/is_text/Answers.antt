-- A text begins one, so what the stream refuses is none.
use Rattle.std.proofs.Common.{◌≡◌, ◌∙◌, true, false, sym, []}
use Rattle.ws_session.proofs.RightPayloads.{text_begins}
use Rattle.ws_session.proofs.receiver.whole_frame.is_text.Goals as goal

not_both : true ≡ false → ⊥
not_both e = absurd cc

pub returns-else-is_ok : goal.returns-else-is_ok
returns-else-is_ok c = (
  λ yes. absurd (not_both (sym yes ∙ c.if-is_ok.false)),
  λ text. c.is_ok.ensures.value
      ∙ (c.push.ensures.fits [] c.new-text.ensures).1 (text_begins c.args.bytes.now text),
)
