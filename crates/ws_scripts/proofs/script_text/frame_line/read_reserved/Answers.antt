-- A word tells one number, and no reserved one where it is another.
use Rattle.std.proofs.Common.{arith}
use Rattle.ws_scripts.proofs.ScriptFrames.{reserved_number}
use Rattle.ws_scripts.proofs.script_text.frame_line.read_reserved.Goals as goal

pub returns-then-number-lt3 : goal.returns-then-number-lt3
returns-then-number-lt3 c = λ value h.
    let bounds = reserved_number c.args.word.now c.in_ok-digits.digits.now c.in_ok-number.number value
    c.in_ok-digits.ensures c.in_ok-number.ensures h in
    omega (arith, bounds.0, c.if-number-lt3.true)

pub returns-then-number-lt11 : goal.returns-then-number-lt11
returns-then-number-lt11 c = λ value h.
    let bounds = reserved_number c.args.word.now c.in_ok-digits.digits.now c.in_ok-number.number value
    c.in_ok-digits.ensures c.in_ok-number.ensures h in
    let above = bounds.1 c.if-number-gt7.true in
    omega (arith, above, c.if-number-lt11.true)
