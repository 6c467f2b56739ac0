-- The end that a plan tests, in memory or at an address: what is known of a meeting with it.
use Rattle.std.specs.Prelude.{◌≡◌, ℕ, List, Result, Ok, Err}
use Rattle.std.specs.Borrow.{Bor}
use Rattle.ws_scripts.specs.declared.script.Case.{Case}
use Rattle.wst_sockets.specs.declared.meeting.Meeting.{Meeting}
use Rattle.wst_testing.specs.Servers.{MeetsAtAddress, MeetsInMemory, ShowsAtAddress, asked_by}
use Rattle.wst_testing.specs.declared.runner.End.{End}
use Rattle.wst_testing.specs.declared.runner.End.TheVariants as end
use Rattle.wst_testing.specs.declared.run_plans.RunPlan.{RunPlan}
use Rattle.wst_testing.specs.declared.run_plans.TestedEnd.{TestedEnd}
use Rattle.wst_testing.specs.declared.run_plans.TestedEnd.TheVariants as tested

-- what may come of a case that is run over an end, with this masking key
abbrev pub MeetsEnd : {N C : Type 0} → End N C → List ℕ → Case → Meeting → Type 0
MeetsEnd (end.Memory memory) key case meeting = MeetsInMemory memory key case meeting
MeetsEnd (end.Address server) key case meeting = MeetsAtAddress server key case meeting

-- and where the lines of the run are written
abbrev pub MeetsEndShown : {N C : Type 0} → End N C → List ℕ → Case → Meeting → Type 0
MeetsEndShown (end.Memory memory) key case meeting = MeetsInMemory memory key case meeting
MeetsEndShown (end.Address server) key case meeting = ShowsAtAddress server key case meeting

-- the end that a plan names for what it tests; or that clients are tested, and the address to which they come
abbrev pub IsEndOfPlan : {N C : Type 0} → RunPlan → TestedEnd → Result (End N C) (Bor (List ℕ)) → Type 0
IsEndOfPlan plan (tested.Memory memory) (Ok named) = named ≡ end.Memory memory
IsEndOfPlan plan (tested.Server target) (Ok named) = named ≡ end.Address (asked_by plan target)
IsEndOfPlan plan (tested.Clients address) (Err given) = given.now ≡ address.now
IsEndOfPlan plan _ _ = ⊥
