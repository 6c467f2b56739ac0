-- Word after word: the cases are those that the words so far stand for.
use Rattle.std.proofs.Common.{take}
use Rattle.wst_commands.specs.GivenCases.{AreCasesFor, names_of}
use Rattle.wst_commands.proofs.given_cases.cases_for.Given as goal

-- the cases of the words so far
abbrev pub invariant-loop-word : goal.invariant-loop-word
invariant-loop-word l = AreCasesFor (names_of (take l.word-index l.words)) l.cases.items
