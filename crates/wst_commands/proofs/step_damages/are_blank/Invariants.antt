-- Word after word: whether all are blank is told by those that are left.
use Rattle.std.proofs.Common.{◌≡◌, drop, map}
use Rattle.std.specs.List.{list_all}
use Rattle.wst_commands.specs.StepDamages.{is_blank_word}
use Rattle.wst_commands.proofs.step_damages.are_blank.Given as goal

abbrev pub invariant-loop-word : goal.invariant-loop-word
invariant-loop-word l = list_all is_blank_word (map (λ word. word.now) l.words)
    ≡ list_all is_blank_word (map (λ word. word.now) (drop l.word-index l.words))
