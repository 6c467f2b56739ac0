-- Calls of a device that are made again where a signal interrupted them.
use Rattle.std.specs.Prelude.{◌≡◌, IfErr, Result}
use Rattle.std.specs.IoError.{error_kind}
use Rattle.std.specs.declared.io.Error.{Error}
use Rattle.std.specs.declared.io.ErrorKind.TheVariants.{Interrupted}
use Rattle.wst_sockets.specs.declared.resuming.Resumed.{Resumed}

-- a signal interrupted the call that answered this error
abbrev pub IsInterrupted : Error → Type 0
IsInterrupted error = error_kind error ≡ Interrupted

-- What was answered is of the device: no error says that a signal interrupted the call. How often the device was asked
-- is not said.
abbrev pub IsUninterrupted : {A : Type 0} → Result A Error → Type 0
IsUninterrupted answer = IfErr answer (λ error. ¬ (IsInterrupted error))

-- whose calls are made again
abbrev pub resumed_device : {T : Type 0} → Resumed T → T
resumed_device resumed = resumed.device
