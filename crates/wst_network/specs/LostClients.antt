-- The failures of an accept that are of the one client that waited. Linux hands on what its network says of a
-- connection that waits, and asks for another accept then.
use Rattle.std.specs.Prelude.{◌≡◌, ◌⊎◌, ℤ, pos, Bool, true, false, Option, Some, None}
use Rattle.std.specs.IoError.{error_kind, raw_os_error}
use Rattle.std.specs.declared.io.Error.{Error}
use Rattle.std.specs.declared.io.ErrorKind.{ErrorKind}
use Rattle.std.specs.declared.io.ErrorKind.TheVariants.{ConnectionAborted, ConnectionReset, HostUnreachable}
use Rattle.std.specs.declared.io.ErrorKind.TheVariants.{Interrupted, NetworkDown, NetworkUnreachable}

-- these kinds; an accept that a signal interrupts is made again too
abbrev pub is_lost_kind : ErrorKind → Bool
is_lost_kind ConnectionAborted = true
is_lost_kind ConnectionReset = true
is_lost_kind HostUnreachable = true
is_lost_kind NetworkUnreachable = true
is_lost_kind NetworkDown = true
is_lost_kind Interrupted = true
is_lost_kind _ = false

-- the numbers of ENONET, EPROTO, ENOPROTOOPT, EOPNOTSUPP and EHOSTDOWN, which have no kind of their own
abbrev pub IsLostNumber : ℤ → Type 0
IsLostNumber number = (number ≡ pos 64) ⊎ (number ≡ pos 71) ⊎ (number ≡ pos 92) ⊎ (number ≡ pos 95)
    ⊎ (number ≡ pos 112)

abbrev pub HasLostNumber : Option ℤ → Type 0
HasLostNumber None = ⊥
HasLostNumber (Some number) = IsLostNumber number

abbrev pub IsOfLostClient : Error → Type 0
IsOfLostClient error = (is_lost_kind (error_kind error) ≡ true) ⊎ HasLostNumber (raw_os_error error)
