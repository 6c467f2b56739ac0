-- Inside the crate: connections that are tapped, one event after the other.
use Rattle.std.specs.Prelude.{◌≡◌, ℕ, true, false, Bool, List, Result, Ok, Err}
use Rattle.ws_frame.specs.Devices.{Device, HasWritten, IsUntouched}
use Rattle.ws_relays.specs.declared.relays.RelayFault.{RelayFault}
use Rattle.ws_relays.specs.declared.relays.RelayFault.TheVariants as fault
use Rattle.ws_relays.specs.declared.tapping.TappingEnd.{TappingEnd}
use Rattle.ws_relays.specs.declared.tapping.TappingEnd.TheVariants as end

-- how the tapping has ended, where it did so
abbrev pub tapping_end_of : Result TappingEnd RelayFault → TappingEnd
tapping_end_of (Ok ended) = ended
tapping_end_of (Err fault.NoMemory) = end.NoMemory
tapping_end_of (Err fault.Output) = end.NotWritten
tapping_end_of (Err fault.WaitFailed) = end.WaitFailed

-- a line was written and flushed; or the output has failed; or memory ran out for it, and nothing was written
abbrev pub PutsEnd : List ℕ → Result (Unit {0}) RelayFault → Device → Type 0
PutsEnd line (Ok done) output = (output.failed ≡ false) × HasWritten line output
PutsEnd line (Err fault.NoMemory) output = (output.failed ≡ false) × IsUntouched output
PutsEnd line (Err fault.Output) output = output.failed ≡ true
PutsEnd line (Err fault.WaitFailed) output = ⊥

-- that no client can be taken for now was told, or nothing was told
abbrev pub IsToldIf : {K : Type 0} → (K → K → Type 0) → Bool → K → K → Type 0
IsToldIf told true old new = told old new
IsToldIf told false old new = new ≡ old
