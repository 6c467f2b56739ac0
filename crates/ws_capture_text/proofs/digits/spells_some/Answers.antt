-- Digits of an even number, which isn't zero, spell bytes, and nothing else does.
use Rattle.std.proofs.Common.{◌/◌, ◌<◌, arith, length}
use Rattle.std.proofs.lemmas.Bool.{false≢true}
use Rattle.std.proofs.lemmas.Bool.Decides.{nat_tests}
use Rattle.ws_capture_text.proofs.OneKind.{digits_spell, spelled_digits, spelled_even}
use Rattle.ws_capture_text.proofs.digits.spells_some.Goals as goal

pub returns-then-is_empty : goal.returns-then-is_empty
returns-then-is_empty c = (
  λ t. absurd (false≢true t),
  λ spells.
      let (n, long, some) = spelled_even c.args.word.now spells in
      let there : 0 < length c.args.word.now = omega (arith, long, some) in
      absurd (grind (arith, nat_tests, c.if-is_empty.true, c.is_empty.ensures)),
)

pub returns-then-word-eq1 : goal.returns-then-word-eq1
returns-then-word-eq1 c = (
  λ t. absurd (false≢true t),
  λ spells.
      let (n, long, some) = spelled_even c.args.word.now spells in
      absurd (omega (arith, long, c.if-word-eq1.true)),
)

pub returns : goal.returns
returns c = (
  λ t.
      let there : 0 < length c.args.word.now = grind (arith, nat_tests, c.if-is_empty.false, c.is_empty.ensures) in
      digits_spell (length c.args.word.now / 2) c.args.word.now (omega (arith, c.if-word-eq1.false))
      (omega (arith, there, c.if-word-eq1.false)) (c.are_digits.ensures.0 t),
  λ spells. c.are_digits.ensures.1 (spelled_digits c.args.word.now spells),
)
