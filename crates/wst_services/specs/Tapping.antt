-- Connections that are tapped, so many at a time: the lines that are told of them, and how that ended.
use Rattle.std.specs.Prelude.{◌≡◌, ℕ, ◌+◌, ◌≤◌, ◌<◌, ◌⊎◌, true, false, List, [], ◌++◌, Result, Ok, Err, Some, length}
use Rattle.std.specs.List.{All}
use Rattle.ws_frame.specs.Devices.{Device, HasWritten, IsUntouched}
use Rattle.ws_tap.specs.Running.{IsTapText}
use Rattle.ws_tap.specs.Texts.{TellsOfBoth}
use Rattle.ws_tap.specs.Told.{TapTold, ArePassedOn}
use Rattle.ws_tap.specs.declared.tapped.Tapped.{Tapped}
use Rattle.ws_relays.specs.Tappings.{ArePartsInTurn, IsTapPartOf, TapPart, ends_of_parts, last_tap_number}
use Rattle.ws_relays.specs.Tappings.{lines_of_number}
use Rattle.ws_relays.specs.Tappings.{numbers_of_ends, parts_text, tapped_in}
use Rattle.ws_relays.specs.declared.relays.RelayEnd.{RelayEnd}
use Rattle.ws_relays.specs.declared.relays.RelayEnd.TheVariants as relay_end
use Rattle.ws_relays.specs.declared.tapping.TappingEnd.{TappingEnd}
use Rattle.ws_relays.specs.declared.tapping.TappingEnd.TheVariants as end
use Rattle.wst_commands.specs.declared.exit.Exit.{Exit}
use Rattle.wst_commands.specs.declared.exit.Exit.TheVariants.{Done, Failed}
use Rattle.wst_commands.specs.declared.fault.Fault.{Fault}
use Rattle.wst_commands.specs.declared.fault.Fault.TheVariants.{NoMemory}
use Rattle.wst_noted.specs.TimedLines.{AreTimed, InLine}
use Rattle.wst_sockets.specs.Listening.{IsToldFor}
use Rattle.wst_services.specs.Serve.{ServesNone, StopsAtListening, TellsFullOnce, listening_line}
use Rattle.wst_services.specs.declared.tapping.TapPlan.{TapPlan}

-- ---- the lines of a connection

-- one that has ended so: none where the server took none, else those of its two ends
abbrev pub IsRelayText : Tapped → RelayEnd → List ℕ → Type 0
IsRelayText tapped relay_end.NoConnection text = text ≡ []
IsRelayText tapped (relay_end.Tapped end) text = IsTapText tapped end text

-- one that goes on: none yet, or what is certain of what its ends sent so far
abbrev pub IsTextSoFar : Tapped → List ℕ → Type 0
IsTextSoFar tapped text = (text ≡ []) ⊎ ((told : List TapTold) × ArePassedOn told × TellsOfBoth tapped told text)

-- ---- the lines of all

-- So many clients came, no more than are to be tapped. These parts tell of them, each in its turn; the lines of each
-- that has ended are those of its two ends, and those of each that goes on are what is certain so far. So many go on,
-- never more than may.
pub record HaveBeenTapped (plan : TapPlan) (there : ℕ) (parts : List TapPart) : Type 0 where
  pub came : ℕ
  pub within : came ≤ last_tap_number plan.count
  pub turns : ArePartsInTurn plan.at_once 0 parts
  pub of_them : All (IsTapPartOf came) parts
  pub ends : All (λ end. IsRelayText (tapped_in plan.style end.0) end.1 (lines_of_number end.0 parts))
      (ends_of_parts parts)
  pub goes_on : (number : ℕ) → 1 ≤ number → number ≤ came
      → All (λ other. other ≡ number → ⊥) (numbers_of_ends (ends_of_parts parts))
      → IsTextSoFar (tapped_in plan.style number) (lines_of_number number parts)
  pub all : came ≡ there + length (ends_of_parts parts)
  pub few : there ≤ plan.at_once

-- after these bytes those lines were written, then these bytes more, and nothing else
pub record HasToldTapped (plan : TapPlan) (before : List ℕ) (there : ℕ) (parts : List TapPart) (more : List ℕ)
    (output : Device) : Type 0 where
  pub tapped : HaveBeenTapped plan there parts
  pub works : output.failed ≡ false
  pub written : HasWritten (before ++ (parts_text parts ++ more)) output

-- fewer have ended than are to be tapped
abbrev pub MoreAreToEnd : TapPlan → List TapPart → Type 0
MoreAreToEnd plan parts = length (ends_of_parts parts) < last_tap_number plan.count

-- How the tapping ended. As many as were asked for have ended, and all was told, which is done. Else fewer have: no
-- client can come any more, or nothing can be waited for, or the output has failed, of which then no more is said; or
-- memory ran out, and perhaps some bytes more were written.
abbrev pub EndsTapping : TapPlan → List ℕ → Result Exit Fault → Device → Type 0
EndsTapping plan before (Ok Done) output = (parts : List TapPart) × HasToldTapped plan before 0 parts [] output
    × (length (ends_of_parts parts) ≡ last_tap_number plan.count)
EndsTapping plan before (Ok Failed) output = ((there : ℕ) × (parts : List TapPart)
    × HasToldTapped plan before there parts [] output × MoreAreToEnd plan parts)
    ⊎ ((output.failed ≡ true) × MoreAreToEnd plan [])
EndsTapping plan before (Ok exit) output = ⊥
EndsTapping plan before (Err fault) output = (fault ≡ NoMemory) × ((there : ℕ) × (parts : List TapPart)
    × (more : List ℕ) × HasToldTapped plan before there parts more output × MoreAreToEnd plan parts)

-- the exit of a tapping that has ended so
abbrev pub tapping_exit : TappingEnd → Result Exit Fault
tapping_exit end.Done = Ok Done
tapping_exit end.Deaf = Ok Failed
tapping_exit end.NotWritten = Ok Failed
tapping_exit end.WaitFailed = Ok Failed
tapping_exit end.NoMemory = Err NoMemory

-- connections were tapped, and so that ended; it was told at most once that none can be taken for now
abbrev pub TapsPlan : TapPlan → List ℕ → Result Exit Fault → Device → Device → Type 0
TapsPlan plan before ended output faults = EndsTapping plan before ended output × TellsFullOnce faults

-- ---- a run

-- it is told that connections to this address are taken, and then they are tapped; or the line came to nothing
abbrev pub TapsToldAt : TapPlan → List ℕ → Result Exit Fault → Device → Device → Type 0
TapsToldAt plan address ended output faults = TapsPlan plan (listening_line address) ended output faults
    ⊎ (StopsAtListening address ended output × IsUntouched faults)

-- what is told of the address is told, and then connections are tapped; or nothing can be listened at
abbrev pub TapsAt : TapPlan → Result Exit Fault → Device → Device → Type 0
TapsAt plan ended output faults = ((address : List ℕ) × IsToldFor plan.listen.now address
    × TapsToldAt plan address ended output faults) ⊎ (ServesNone ended output × IsUntouched faults)

-- What a device that held nothing holds is what the output holds, where that held nothing too: the first line as it is,
-- and each other one behind a time.
abbrev pub IsTimedBehindFirst : Device → Device → Type 0
IsTimedBehindFirst shown output = output.old ≡ Some [] → (shown.old ≡ Some []) × ((lines : List ℕ)
    → shown.new ≡ Some lines → (bytes : List ℕ) × (output.new ≡ Some bytes) × AreTimed InLine bytes lines)

-- Connections are tapped, as is told to a device; what that shows stands in one that held what the output held. That
-- this one is the output isn't said. Or memory ran out for a time.
abbrev pub TapsTimed : TapPlan → Result Exit Fault → Device → Device → Type 0
TapsTimed plan ended output faults = (inner : Result Exit Fault) × (shown : Device) × (behind : Device)
    × TapsAt plan inner shown faults × (behind.old ≡ output.old) × IsTimedBehindFirst shown behind
    × ((ended ≡ inner) ⊎ (ended ≡ Err NoMemory))

-- connections are tapped, and each of their lines stands behind a time where the plan wants that
abbrev pub TapsOver : TapPlan → Result Exit Fault → Device → Device → Type 0
TapsOver plan ended output faults = ((plan.time ≡ false) × TapsAt plan ended output faults)
    ⊎ ((plan.time ≡ true) × TapsTimed plan ended output faults)
