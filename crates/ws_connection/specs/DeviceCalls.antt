-- Calls of a reader and a writer, one by one: what each answers, and that it was made.
use Rattle.std.specs.Prelude.{ℕ, ◌+◌, ◌%◌, ◌^◌, ◌==◌, if◌then◌else◌, Bool, true, false, List, Option, Result, Ok}
use Rattle.std.specs.Prelude.{Err}
use Rattle.std.specs.IoError.{error_kind}
use Rattle.std.specs.declared.io.Error.{Error}
use Rattle.std.specs.declared.io.ErrorKind.{ErrorKind}
use Rattle.std.specs.declared.io.ErrorKind.TheVariants.{TimedOut, WouldBlock}
use Rattle.ws_connection.specs.declared.incoming.Incoming.{Incoming}
use Rattle.ws_connection.specs.declared.incoming.Incoming.TheVariants.{Open, Waited, Late, AtEnd, Failed}

-- a reader with its reads: what it has left, where that is known; what the last read has answered; and how many were
-- made, counted modulo 2^64
pub record ReadsValue : Type 0 where
  pub left : Option (List ℕ)
  pub state : Incoming
  pub calls : ℕ

-- a writer with its writes: what it holds, where that is known; whether a write has failed; whether the deadline had
-- passed by the last one; whether its direction was ended, and whether it says so itself; and how many calls it has
-- got, counted modulo 2^64
pub record WritesValue : Type 0 where
  pub held : Option (List ℕ)
  pub failed : Bool
  pub late : Bool
  pub ended : Bool
  pub knows_end : Bool
  pub calls : ℕ

-- one call more, counted from 0 again behind 2^64 - 1
abbrev pub one_call_more : ℕ → ℕ
one_call_more calls = (calls + 1) % 2 ^ 64

-- an error of the kind that a socket answers where its time-out has expired is a wait in vain, one of the kind
-- `TimedOut` says that the deadline has passed, and every other one is a failure
abbrev pub state_after_error : ErrorKind → Incoming
state_after_error WouldBlock = Waited
state_after_error TimedOut = Late
state_after_error _ = Failed

-- how the reads stand after a read with room that has answered so
abbrev pub state_after_read : Result ℕ Error → Incoming
state_after_read (Ok count) = if count == 0 then AtEnd else Open
state_after_read (Err error) = state_after_error (error_kind error)

-- the deadline had passed by a write that has answered so
abbrev pub is_late_error : ErrorKind → Bool
is_late_error TimedOut = true
is_late_error _ = false

abbrev pub is_late : Result ℕ Error → Bool
is_late (Ok count) = false
is_late (Err error) = is_late_error (error_kind error)
