-- A run of `send` whose lines stand behind the time, or behind the lines of the heads.
use Rattle.std.specs.Prelude.{◌≡◌, ◌⊎◌, Bool, true, false, List, ℕ, [], Option, Some}
use Rattle.ws_frame.specs.Devices.{Device, IsUntouched}
use Rattle.wst_commands.specs.Faults.{LacksMemory}
use Rattle.wst_commands.specs.declared.exit.Exit.{Exit}
use Rattle.wst_commands.specs.declared.exit.Exit.TheVariants.{Failed}
use Rattle.wst_words.specs.declared.send.SendOptions.{SendOptions}
use Rattle.wst_testing.specs.RunPlans.{TellsRefusal}
use Rattle.wst_testing.specs.declared.run_plans.Refusal.{Refusal}
use Rattle.wst_noted.specs.HeadWriting.{EndWith}
use Rattle.wst_noted.specs.TimedLines.{AreTimed, InTime}
use Rattle.wst_run.specs.Send.{IsSendPlan, RefusesSend, SendsOver, is_noted}
use Rattle.wst_run.specs.ClientRuns.{GoesBefore}
use Rattle.wst_run.specs.declared.send.SendPlan.{SendPlan}

-- known bytes are these lines, each behind a time, or end with them, each behind a time or none: where heads stand
-- before them
abbrev pub AreLinesNoted : Bool → Bool → List ℕ → Option (List ℕ) → Type 0
AreLinesNoted true true lines held = (bytes : List ℕ) × AreTimed InTime bytes lines × EndWith bytes held
AreLinesNoted true false lines held = (bytes : List ℕ) × (held ≡ Some bytes) × AreTimed InTime bytes lines
AreLinesNoted false heads lines held = EndWith lines held

-- What a device that held nothing holds is what the output holds, each line of it behind a time, where that held
-- nothing too; or is at its end, each line behind a time or none, where heads stand before them.
abbrev pub IsShownBehind : Bool → Bool → Device → Device → Type 0
IsShownBehind timed heads shown output = (held : List ℕ) → output.old ≡ Some held → (heads ≡ false → held ≡ [])
    → (shown.old ≡ Some []) × ((lines : List ℕ) → shown.new ≡ Some lines
    → AreLinesNoted timed heads lines output.new)

-- the exit, where the last lines were written or not
abbrev pub EndsRunAs : Exit → Exit → Type 0
EndsRunAs inner exit = (exit ≡ inner) ⊎ (exit ≡ Failed)

-- The plan was carried out over its end; what was shown stands in a device that held what the output held, behind what
-- was noted. That this device is the output isn't said.
abbrev pub SendsBehind : Bool → Bool → SendPlan → Exit → Device → Device → Device → Type 0
SendsBehind timed heads plan exit input output faults = (inner : Exit) × (shown : Device) × (behind : Device)
    × SendsOver plan inner input shown faults × (behind.old ≡ output.old)
    × IsShownBehind timed heads shown behind × EndsRunAs inner exit

-- the exit, where nothing was told, or memory ran out for a note
abbrev pub EndsNoted : Exit → Exit → Device → Type 0
EndsNoted inner exit faults = ((exit ≡ inner) × IsUntouched faults) ⊎ LacksMemory exit faults

-- A plan is carried out as it is; or so, with an output that was written behind what was noted, where it asks for
-- times or heads.
abbrev pub SendsPlanned : SendPlan → Exit → Device → Device → Device → Type 0
SendsPlanned plan exit input output faults =
    ((is_noted plan ≡ false) × SendsOver plan exit input output faults)
    ⊎ ((is_noted plan ≡ true) × ((inner : Exit) × (first : Device) × GoesBefore first faults
    × SendsBehind plan.time plan.heads plan inner input output first
    × EndsNoted inner exit (record faults { old = first.new })))

-- A run of `send`: the script that comes in is run as the words ask; or nothing is read, and it is told why.
abbrev pub RunsSend : SendOptions → Exit → Device → Device → Device → Type 0
RunsSend options exit input output faults =
    ((plan : SendPlan) × IsSendPlan options plan × SendsPlanned plan exit input output faults)
    ⊎ ((reason : Refusal) × RefusesSend options reason × IsUntouched input × IsUntouched output
    × TellsRefusal reason exit faults)
