-- One digit, or the two of a pair.
use Rattle.std.proofs.Common.{◌∙◌, ◌++◌, List, ℕ, ap, sym, arith}
use Rattle.std.proofs.lemmas.Fmt.{decimal_digit}
use Rattle.ws_frame.proofs.DecimalDigits.{two_decimal}
use Rattle.ws_frame.proofs.room.Room.push_1_to_2.Goals as goal

pub returns-then-number-lt10-clause-pushed : goal.returns-then-number-lt10-clause-pushed
returns-then-number-lt10-clause-pushed c =
    c.push.ensures.pushed ∙ ap (λ (t : List ℕ). c.args.self.now ++ t) (sym (decimal_digit c.args.number (omega (arith, c.if-number-lt10.true))))

pub returns-else-number-lt10-clause-pushed : goal.returns-else-number-lt10-clause-pushed
returns-else-number-lt10-clause-pushed c =
    c.push_all_2.ensures.pushed
    ∙ ap (λ (t : List ℕ). c.args.self.now ++ t) (sym (two_decimal c.args.number (omega (arith, c.if-number-lt10.false)) c.requires.few))
