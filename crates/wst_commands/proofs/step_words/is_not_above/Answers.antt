-- Where nothing is left of the limit, no word is above it.
use Rattle.std.proofs.Common.{◌∙◌, drop, sym}
use Rattle.wst_commands.proofs.StepLoops.{nothing_above}
use Rattle.wst_commands.proofs.step_words.is_not_above.Goals as goal

pub returns-in_default : goal.returns-in_default
returns-in_default c =
    let loop = c.loop-byte in
    sym (loop.invariant ∙ nothing_above (drop loop.byte-index c.args.word.now) loop.limit.now c.in_default.len_below)
