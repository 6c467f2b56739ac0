-- A number of 32 bits that doesn't fit 16 bits is no number of 16 bits, since a word tells one number.
use Rattle.std.proofs.Common.{arith, ◌≡◌}
use Rattle.ws_formats.proofs.NumberWords.{number_one}
use Rattle.ws_formats.proofs.numbers.read_u16.Goals as goal

pub returns-in-Err : goal.returns-in-Err
returns-in-Err c = λ number h.
    let same : number ≡ c.in_ok-number.number = number_one 65535 4294967295 number c.in_ok-number.number c.args.word.now (omega arith) (omega arith) h c.in_ok-number.ensures in
    c.in-Err.ensures (omega (arith, h.0))
