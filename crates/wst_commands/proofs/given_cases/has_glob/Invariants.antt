-- Word after word: none of those so far ends in a star.
use Rattle.std.proofs.Common.{take}
use Rattle.wst_commands.specs.GivenCases.{HaveNoGlob}
use Rattle.wst_commands.proofs.given_cases.has_glob.Given as goal

-- none of the words so far is a glob
abbrev pub invariant-loop-word : goal.invariant-loop-word
invariant-loop-word l = HaveNoGlob (take l.word-index l.words)
