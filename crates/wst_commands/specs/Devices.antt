-- What is told and delivered over watched devices.
use Rattle.std.specs.Prelude.{◌≡◌, ℕ, ◌⊎◌, true, false, List}
use Rattle.ws_frame.specs.Devices.{Device, HasBegun, HasWritten}
use Rattle.ws_frame.specs.Watching.{has_failed}
use Rattle.ws_frame.specs.declared.watching.Watched.{Watched}
use Rattle.wst_commands.specs.declared.exit.Exit.{Exit}
use Rattle.wst_commands.specs.declared.exit.Exit.TheVariants.{Failed}

-- a device through which a call had failed has still failed
abbrev pub StaysFailed : {T : Type 0} → Watched T → Watched T → Type 0
StaysFailed old new = has_failed old ≡ true → has_failed new ≡ true

-- these bytes were written; or, where the device has failed, a beginning of them
abbrev pub Tells : List ℕ → Device → Type 0
Tells bytes output = HasWritten bytes output ⊎ ((output.failed ≡ true) × HasBegun bytes output)

-- these bytes were written, and the exit is this one; or a write failed, a beginning of them was written, and the exit
-- is that of a failure
abbrev pub Delivers : Exit → List ℕ → Exit → Device → Type 0
Delivers done bytes exit output =
    ((exit ≡ done) × (output.failed ≡ false) × HasWritten bytes output)
    ⊎ ((exit ≡ Failed) × (output.failed ≡ true) × HasBegun bytes output)
