-- The last two digits stand behind the others.
use Rattle.std.proofs.Common.{◌%◌, ◌/◌, ◌∙◌, ◌++◌, List, ℕ, ap, sym, append_assoc, arith}
use Rattle.std.specs.Fmt.{decimal}
use Rattle.ws_frame.specs.InnerPrinting.{pair_digits}
use Rattle.ws_frame.proofs.DecimalDigits.{last_two}
use Rattle.ws_frame.proofs.room.Room.push_3_to_4.Goals as goal

pub returns-clause-pushed : goal.returns-clause-pushed
returns-clause-pushed c =
    let number = c.args.number in
    let old = c.args.self.now in
    c.push_all_2.ensures.pushed
    ∙ ap (λ (t : List ℕ). t ++ pair_digits (number % 100)) c.push_1_to_2.ensures.pushed
    ∙ append_assoc old (decimal (number / 100)) (pair_digits (number % 100))
    ∙ ap (λ (t : List ℕ). old ++ t) (sym (last_two number c.requires.hundreds (omega (arith, c.requires.few))))
