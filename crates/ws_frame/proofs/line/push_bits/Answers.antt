-- A digit below ten is one character.
use Rattle.std.proofs.Common.{◌+◌, ◌++◌, ◌∙◌, List, ℕ, set, ap, arith}
use Rattle.std.proofs.lemmas.Fmt.{decimal_digit}
use Rattle.ws_frame.proofs.line.push_bits.Goals as goal
use Rattle.ws_frame.proofs.line.push_bits.Goals.{then-fin, else-fin}

pub returns-clause-pushed : goal.returns-clause-pushed
returns-clause-pushed c =
    let whole : List ℕ → List ℕ = λ words. c.args.room.now ++ set words 11 (48 + c.args.rsv) in
    rw (decimal_digit c.args.rsv (omega (arith, c.requires.bits))) (elim c.if-fin.branch [
      | then-fin w ↦ rw w.if-fin.true (c.push.ensures.pushed ∙ ap whole w.words-is)
      | else-fin w ↦ rw w.if-fin.false (c.push.ensures.pushed ∙ ap whole w.words-is)
    ])
