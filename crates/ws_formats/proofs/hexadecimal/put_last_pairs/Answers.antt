-- Where each byte is spelled by its pair, the word spells the bytes.
use Rattle.std.proofs.Common.{arith}
use Rattle.ws_formats.proofs.HexReads.{pairs_at}
use Rattle.ws_formats.proofs.hexadecimal.put_last_pairs.Goals as goal

pub returns : goal.returns
returns c = pairs_at c.bytes.bytes c.args.word.now (omega (arith, c.requires.room, c.bytes.invariant.len))
    (λ k less. c.bytes.invariant.spelled k (omega arith))
