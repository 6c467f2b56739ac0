-- Word after word: what is wrong is told by those that are left.
use Rattle.std.proofs.Common.{◌≡◌, drop, map}
use Rattle.wst_commands.specs.StepWords.{first_damage}
use Rattle.wst_commands.proofs.step_words.first_damage.Given as goal

abbrev pub invariant-loop-word : goal.invariant-loop-word
invariant-loop-word l = first_damage (map (λ word. word.now) l.words)
    ≡ first_damage (map (λ word. word.now) (drop l.word-index l.words))
