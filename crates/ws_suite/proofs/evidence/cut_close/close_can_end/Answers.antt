-- More bytes can end a close payload by room for a code, by a code's first byte, or by the end of the reason's text.
use Rattle.std.proofs.Common.{refl, arith}
use Rattle.std.proofs.lemmas.Bool.{leb-true, le-leb}
use Rattle.ws_wire.specs.Header.{AreBytes}
use Rattle.ws_session.proofs.RightCloses.{ends_empty, ends_half, ends_reason}
use Rattle.ws_suite.proofs.evidence.cut_close.close_can_end.Goals as goal

pub returns-in-empty : goal.returns-in-empty
returns-in-empty c =
    let ends = ends_empty c.args.payload.now c.args.left c.in-empty.len_below c.requires.some c.requires.short in
    (λ e. ends.0 (leb-true _ _ e), λ h. le-leb _ _ (ends.1 h))

pub returns-in-len1 : goal.returns-in-len1
returns-in-len1 c =
    let are : AreBytes c.args.payload.now = λ i. omega (arith, c.type_inv.payload i) in
    let ends = ends_half c.args.payload.now c.args.left are c.in-len1.len_at_least c.in-len1.len_below c.requires.some
    c.requires.short in
    (λ e. ends.0 (c.code_may_begin.ensures.0 e), λ h. c.code_may_begin.ensures.1 (ends.1 h))

pub returns-else-not-code_allowed : goal.returns-else-not-code_allowed
returns-else-not-code_allowed c =
    let are : AreBytes c.args.payload.now = λ i. omega (arith, c.type_inv.payload i) in
    let ends = ends_reason c.args.payload.now c.from_be_bytes.result c.args.left are c.in-len2-up.len_at_least
    c.requires.short c.from_be_bytes.ensures (c.if-not-code_allowed.ensures.0 refl) in
    (λ e. ends.0 (c.text_can_end.ensures.0 e), λ h. c.text_can_end.ensures.1 (ends.1 h))
