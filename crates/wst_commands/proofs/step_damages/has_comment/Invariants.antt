-- Word after word: whether one begins a comment is told by those that are left.
use Rattle.std.proofs.Common.{◌≡◌, drop, map}
use Rattle.std.specs.List.{list_any}
use Rattle.wst_commands.specs.StepDamages.{is_comment}
use Rattle.wst_commands.proofs.step_damages.has_comment.Given as goal

abbrev pub invariant-loop-word : goal.invariant-loop-word
invariant-loop-word l = list_any is_comment (map (λ word. word.now) l.words)
    ≡ list_any is_comment (map (λ word. word.now) (drop l.word-index l.words))
