-- Act after act of the row: the steps so far can be sent.
use Rattle.ws_scripts.specs.Scripts.{FitHeaders}
use Rattle.ws_scripts.proofs.cases.scripting.row_steps.Given as goal

-- the steps so far can be sent
abbrev pub invariant-loop-act : goal.invariant-loop-act
invariant-loop-act l = FitHeaders l.steps.items
