-- The last four digits stand behind the others.
use Rattle.std.proofs.Common.{◌%◌, ◌/◌, ◌∙◌, ◌++◌, List, ℕ, ap, sym, append_assoc, arith}
use Rattle.std.specs.Fmt.{decimal}
use Rattle.ws_frame.specs.InnerPrinting.{four_digits}
use Rattle.ws_frame.proofs.DecimalDigits.{last_four}
use Rattle.ws_frame.proofs.room.Room.push_5_to_8.Goals as goal

pub returns-clause-pushed : goal.returns-clause-pushed
returns-clause-pushed c =
    let number = c.args.number in
    let old = c.args.self.now in
    c.push_all_4.ensures.pushed
    ∙ ap (λ (t : List ℕ). t ++ four_digits (number % 10000)) c.push_1_to_4.ensures.pushed
    ∙ append_assoc old (decimal (number / 10000)) (four_digits (number % 10000))
    ∙ ap (λ (t : List ℕ). old ++ t) (sym (last_four number c.requires.many (omega (arith, c.requires.few))))
