-- What a run does to a watched reader or writer, as one value.
use Rattle.std.specs.Prelude.{ℕ, Bool, List, Option}
use Rattle.std.specs.Io.KnownBytes.{Appends, Consumes, Keeps}
use Rattle.ws_frame.specs.declared.watching.Watched.{Watched}
use Rattle.ws_frame.specs.Watching.{AppendsFront, has_failed, inner_of}

-- a device after a run: whether a call through it has failed; and what a reader had left, or a writer held, before the
-- run and has or holds now, where that is known
pub record Device : Type 0 where
  pub failed : Bool
  pub old : Option (List ℕ)
  pub new : Option (List ℕ)

-- what a run did to a watched device; its bytes are `R.remaining` of a reader, `W.contents` of a writer
abbrev pub watched : {T : Type 0} → (T → Option (List ℕ)) → Watched T → Watched T → Device
watched bytes old new = record { failed = has_failed new; old = bytes (inner_of old); new = bytes (inner_of new) }

-- it has or holds what it had or held
abbrev pub IsUntouched : Device → Type 0
IsUntouched device = Keeps device.old device.new

-- these bytes were read
abbrev pub HasRead : List ℕ → Device → Type 0
HasRead bytes input = Consumes input.old input.new bytes

-- these bytes were written
abbrev pub HasWritten : List ℕ → Device → Type 0
HasWritten bytes output = Appends output.old output.new bytes

-- a beginning of these bytes was written
abbrev pub HasBegun : List ℕ → Device → Type 0
HasBegun bytes output = AppendsFront output.old output.new bytes
