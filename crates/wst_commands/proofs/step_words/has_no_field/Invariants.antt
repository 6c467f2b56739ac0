-- Word after word: whether one is no field is told by those that are left.
use Rattle.std.proofs.Common.{◌≡◌, drop, map}
use Rattle.wst_commands.specs.StepWords.{has_no_field}
use Rattle.wst_commands.proofs.step_words.has_no_field.Given as goal

abbrev pub invariant-loop-word : goal.invariant-loop-word
invariant-loop-word l = has_no_field (map (λ word. word.now) l.words)
    ≡ has_no_field (map (λ word. word.now) (drop l.word-index l.words))
