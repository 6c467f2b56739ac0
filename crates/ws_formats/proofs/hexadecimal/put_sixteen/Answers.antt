-- Every other digit of the word is the first of a pair, and the next one its second.
use Rattle.std.proofs.Common.{arith, refl}
use Rattle.ws_formats.proofs.HexLanes.{picked_digits, vector_pairs}
use Rattle.ws_formats.proofs.hexadecimal.put_sixteen.Goals as goal

pub joined-requires : goal.joined-requires
joined-requires c =
    let first = picked_digits c.args.word.now 32 0 16 c.requires.pairs (omega arith) c.requires.digits in
    let second = picked_digits c.args.word.now 32 1 16 c.requires.pairs (omega arith) c.requires.digits in
    (omega arith, (first, second))

pub returns : goal.returns
returns c = vector_pairs 16 32 c.args.word.now c.args.bytes.now c.joined.result refl c.requires.pairs c.requires.room c.joined.ensures.len c.joined.ensures.pairs
