-- Byte after byte: if the steps before could be sent, so can they with the fragments so far.
use Rattle.ws_scripts.specs.Scripts.{FitHeaders}
use Rattle.ws_scripts.proofs.cases.pushing.push_fragments.Given as goal

-- the steps so far can be sent
abbrev pub invariant-loop-place : goal.invariant-loop-place
invariant-loop-place l = FitHeaders l.fn.steps.items → FitHeaders l.steps.items
