-- What contracts read of a watched reader or writer, and which calls fail one.
use Rattle.std.specs.Prelude.{◌≡◌, ℕ, List, ◌++◌, Bool, Option, Result, Ok, Err, ◌==◌, ◌&&◌, nat_lt, length}
use Rattle.std.specs.Io.KnownBytes.{Appends}
use Rattle.ws_frame.specs.declared.watching.Watched.{Watched}

-- what is watched
abbrev pub inner_of : {T : Type 0} → Watched T → T
inner_of watched = watched.inner

-- some call through it has failed
abbrev pub has_failed : {T : Type 0} → Watched T → Bool
has_failed watched = watched.failed

-- a write of at least one byte fails where it answers an error or takes none
abbrev pub write_fails : {E : Type 0} → Result ℕ E → List ℕ → Bool
write_fails (Ok taken) buf = (taken == 0) && nat_lt 0 (length buf)
write_fails (Err _) buf = nat_lt 0 (length buf)

-- what a writer holds grew by a beginning of these bytes
abbrev pub AppendsFront : Option (List ℕ) → Option (List ℕ) → List ℕ → Type 0
AppendsFront held_old held_new bytes =
    (front : List ℕ) × (more : List ℕ) × (bytes ≡ front ++ more) × Appends held_old held_new front
