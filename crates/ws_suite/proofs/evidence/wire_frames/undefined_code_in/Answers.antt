-- A code is found where there are two bytes, their number is undefined, and what is behind them is text.
use Rattle.std.proofs.Common.{arith}
use Rattle.ws_text.proofs.Closes.{holds_code}
use Rattle.ws_text.proofs.Texts.{text_from_utf8, utf8_from_text}
use Rattle.ws_suite.proofs.UndefinedCodes.{held_is}
use Rattle.ws_suite.proofs.evidence.wire_frames.undefined_code_in.Goals as goal

pub returns-then-not-is_undefined_code : goal.returns-then-not-is_undefined_code
returns-then-not-is_undefined_code c = λ code found.
    let held = holds_code c.args.payload.now c.from_be_bytes-code.result c.in-len2-up.len_at_least
    (omega (arith, c.type_inv.payload 0)) (omega (arith, c.type_inv.payload 1)) c.from_be_bytes-code.ensures in
    let there = c.is_undefined_code.ensures.1 (held_is c.args.payload.now c.from_be_bytes-code.result code held found).0 in
    cc

pub returns-in-Ok : goal.returns-in-Ok
returns-in-Ok c =
    let held = holds_code c.args.payload.now c.from_be_bytes-code.result c.in-len2-up.len_at_least
    (omega (arith, c.type_inv.payload 0)) (omega (arith, c.type_inv.payload 1)) c.from_be_bytes-code.ensures in
    (_, held, c.is_undefined_code.ensures.0 c.if-not-is_undefined_code.false, text_from_utf8 _ c.in-Ok.ensures.cases.1)

pub returns-in-Err : goal.returns-in-Err
returns-in-Err c = λ code found.
    let held = holds_code c.args.payload.now c.from_be_bytes-code.result c.in-len2-up.len_at_least
    (omega (arith, c.type_inv.payload 0)) (omega (arith, c.type_inv.payload 1)) c.from_be_bytes-code.ensures in
    c.in-Err.ensures.cases.0
    (utf8_from_text _ (held_is c.args.payload.now c.from_be_bytes-code.result code held found).1)
