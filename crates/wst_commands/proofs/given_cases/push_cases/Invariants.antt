-- Id after id: the cases of the ids so far stand at the end.
use Rattle.std.proofs.Common.{◌≡◌, ◌++◌, List, take}
use Rattle.std.specs.List.{All, Contains}
use Rattle.ws_scripts.specs.CaseNames.{case_names}
use Rattle.ws_scripts.specs.declared.script.Case.{Case}
use Rattle.wst_commands.specs.GivenCases.{AreCasesOf, names_of}
use Rattle.wst_commands.proofs.given_cases.push_cases.Given as goal

-- the ids so far are names of cases, which stand at the end
abbrev pub invariant-loop-id : goal.invariant-loop-id
invariant-loop-id l = All (Contains case_names) (names_of (take l.id-index l.ids))
    × ((more : List Case) × AreCasesOf (names_of (take l.id-index l.ids)) more
    × (l.cases.items ≡ l.initial.cases.items ++ more))
