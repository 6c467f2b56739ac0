-- Each half is the place of its digit in the table.
use Rattle.std.proofs.Common.{◌<◌, ◌∙◌, get_or, refl, ap, arith, w8}
use Rattle.std.proofs.lemmas.Simd.{SwzOk-from_below, Each1-from_get_or, length-swz_l, get_or-swz_l_below}
use Rattle.ws_formats.specs.declared.digits.TheConstants.{DIGITS}
use Rattle.ws_formats.proofs.DigitLanes.{glyph_at}
use Rattle.ws_formats.proofs.digits.look_up.Goals as goal

pub swizzle : goal.swizzle
swizzle c =
    let halves = c.args.halves in
    SwzOk-from_below w8 16 1 16 0 halves refl (omega (arith, c.requires.len))
    (Each1-from_get_or (λ j. j < 16) halves 0 (λ i lt. c.requires.small i (omega (arith, c.requires.len))))

pub returns-clause-len : goal.returns-clause-len
returns-clause-len c = length-swz_l w8 16 DIGITS 0 c.args.halves ∙ c.requires.len

pub returns-clause-digits : goal.returns-clause-digits
returns-clause-digits c = λ i lt.
    let halves = c.args.halves in
    let small = c.requires.small i lt in
    get_or-swz_l_below w8 16 DIGITS 0 halves i (omega (arith, c.requires.len)) small
    ∙ ap (λ k. get_or DIGITS k 0) (omega arith) ∙ glyph_at (get_or halves i 0) small
