-- The digits end at a place within the buffer, and what stands from their start on begins with them.
use Rattle.std.proofs.Common.{arith, ◌∙◌, ◌++◌, List, ℕ, ap}
use Rattle.std.specs.Fmt.{decimal}
use Rattle.std.proofs.lemmas.Fmt.{length-decimal-le}
use Rattle.ws_frame.proofs.LineLemmas.{digits_front}
use Rattle.ws_frame.proofs.room.Room.push_1_to_20.Goals as goal

pub write_digits-start-requires : goal.write_digits-start-requires
write_digits-start-requires c = (length-decimal-le 20 c.args.number (omega arith) (omega (arith, c.ranges.number.fits)) (omega (arith, c.ranges.number.fits)), omega arith)

pub returns-clause-pushed : goal.returns-clause-pushed
returns-clause-pushed c =
    c.push_front.ensures.pushed
    ∙ ap (λ (t : List ℕ). c.args.self.now ++ t) (digits_front 20 c.write_digits-start.result (decimal c.args.number) c.write_digits-start.new.buf _ c.write_digits-start.ensures.start c.write_digits-start.ensures.written)
