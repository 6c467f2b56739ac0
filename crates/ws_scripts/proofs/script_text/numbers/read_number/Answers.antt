-- A word tells one number.
use Rattle.std.proofs.Common.{◌≡◌, arith}
use Rattle.ws_formats.proofs.NumberWords.{number_one}
use Rattle.ws_scripts.proofs.script_text.numbers.read_number.Goals as goal

pub returns-then-number-most : goal.returns-then-number-most
returns-then-number-most c = λ number h.
    let same : number ≡ c.in_ok-number.number =
    number_one c.args.most 4294967295 number c.in_ok-number.number c.args.word.now
    (omega (arith, c.ranges.most.fits)) (omega arith) h c.in_ok-number.ensures in
    omega (arith, h.0, c.if-number-most.true)
