-- Word after word: whether all are fields is told by those that are left.
use Rattle.std.proofs.Common.{◌≡◌, drop, map}
use Rattle.wst_commands.specs.StepWords.{are_fields}
use Rattle.wst_commands.proofs.step_words.are_fields.Given as goal

abbrev pub invariant-loop-word : goal.invariant-loop-word
invariant-loop-word l = are_fields (map (λ word. word.now) l.words)
    ≡ are_fields (map (λ word. word.now) (drop l.word-index l.words))
