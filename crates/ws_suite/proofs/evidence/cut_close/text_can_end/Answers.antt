-- So many more bytes can end a text exactly where its unfinished character wants no more than these.
use Rattle.std.proofs.Common.{[], arith}
use Rattle.std.proofs.lemmas.Bool.{leb-true, le-leb}
use Rattle.ws_session.proofs.RightPayloads.{can_end_text}
use Rattle.ws_suite.proofs.evidence.cut_close.text_can_end.Goals as goal

pub returns-in-Ok : goal.returns-in-Ok
returns-in-Ok c =
    let wanted = c.wanted.ensures.wanted c.args.bytes.now (c.in-Ok.ensures.read [] c.new-text.ensures) in (
      λ e. can_end_text c.args.bytes.now c.wanted.result c.args.left wanted (leb-true _ _ e),
      λ h. le-leb _ _ (omega (arith, wanted.least h.0 h.2, h.1)),
    )
