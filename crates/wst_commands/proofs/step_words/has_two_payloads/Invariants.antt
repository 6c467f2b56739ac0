-- Word after word: whether one stands behind data is told by those that are left, behind the last.
use Rattle.std.proofs.Common.{◌≡◌, drop, map}
use Rattle.wst_commands.specs.StepWords.{has_two_payloads, has_word_behind}
use Rattle.wst_commands.proofs.step_words.has_two_payloads.Given as goal

abbrev pub invariant-loop-word : goal.invariant-loop-word
invariant-loop-word l = has_two_payloads (map (λ word. word.now) l.words)
    ≡ has_word_behind l.behind (map (λ word. word.now) (drop l.word-index l.words))
