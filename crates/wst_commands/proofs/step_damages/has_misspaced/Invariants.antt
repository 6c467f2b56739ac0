-- Word after word: whether one is misspaced is told by those that are left.
use Rattle.std.proofs.Common.{◌≡◌, drop, map}
use Rattle.std.specs.List.{list_any}
use Rattle.wst_commands.specs.StepDamages.{is_misspaced}
use Rattle.wst_commands.proofs.step_damages.has_misspaced.Given as goal

abbrev pub invariant-loop-word : goal.invariant-loop-word
invariant-loop-word l = list_any is_misspaced (map (λ word. word.now) l.words)
    ≡ list_any is_misspaced (map (λ word. word.now) (drop l.word-index l.words))
