-- The bytes stand at the front of the block, and so do their digits.
use Rattle.std.proofs.Common.{arith, length, refl}
use Rattle.ws_formats.proofs.DigitLanes.{last_digits}
use Rattle.ws_formats.proofs.digits.put_last_digits.Goals as goal

pub returns : goal.returns
returns c =
    let bytes = c.args.bytes.now in (
      λ i. omega (arith, c.type_inv.bytes i),
      last_digits (length bytes) bytes c.copy_from_slice.new.self _ _ _ refl c.copy_from_slice.ensures.after c.digits_of.ensures.pairs c.copy_from_slice-2.ensures.after,
    )
