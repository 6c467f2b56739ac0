-- Word after word: whether one stands behind a later one is told by those that are left, behind the last.
use Rattle.std.proofs.Common.{◌≡◌, drop, map}
use Rattle.wst_commands.specs.StepWords.{descend}
use Rattle.wst_commands.proofs.step_words.descend.Given as goal

abbrev pub invariant-loop-word : goal.invariant-loop-word
invariant-loop-word l = descend l.fn.least (map (λ word. word.now) l.words)
    ≡ descend l.low (map (λ word. word.now) (drop l.word-index l.words))
