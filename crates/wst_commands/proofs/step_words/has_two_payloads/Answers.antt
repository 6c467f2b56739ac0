-- A word that stands behind data is one of those that are left.
use Rattle.std.proofs.Common.{◌∙◌, sym}
use Rattle.wst_commands.proofs.StepLoops.{behind_there}
use Rattle.wst_commands.proofs.step_words.has_two_payloads.Goals as goal

pub returns-then-behind : goal.returns-then-behind
returns-then-behind c =
    let loop = c.loop-word in
    sym (loop.invariant ∙ behind_there loop.behind loop.word-index c.args.words.now c.if-behind.true c.loop-word-test.true)
