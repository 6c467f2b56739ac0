-- Turn after turn: pieces of the turns that are left, put behind those so far, are the pieces of the whole script.
use Rattle.std.proofs.Common.{◌++◌, List, ℕ, length}
use Rattle.std.specs.List.{AllZip}
use Rattle.ws_scripts.specs.Scripts.{ArePieces, FitHeaders, turns_of}
use Rattle.ws_scripts.proofs.cutting.turns_with.Given as goal

-- whatever pieces come for the rest, after the pieces so far they are those of the whole script
abbrev pub invariant-loop-rest : goal.invariant-loop-rest
invariant-loop-rest l = record {
  frames : FitHeaders l.rest;
  turns : (more : List (List (List ℕ))) → AllZip (ArePieces l.case.chop l.key) (turns_of l.rest) more
      → AllZip (ArePieces l.case.chop l.key) (turns_of l.case.steps) (l.turns.items ++ more);
}

abbrev pub decreases-loop-rest : goal.decreases-loop-rest
decreases-loop-rest l = length l.rest
