-- How long an address is waited for.
use Rattle.std.specs.Prelude.{ℕ, ◌||◌, Bool, Option}
use Rattle.ws_loops.specs.Paces.{has_ended_by, passes_at, sooner}
use Rattle.ws_networks.specs.declared.bounds.Bounds.{Bounds}
use Rattle.ws_networks.specs.declared.bounds.Limits.{Limits}

-- those of a connection whose name is looked up by now: the deadline passes so long from now
abbrev pub bounds_from : Limits → ℕ → Bounds
bounds_from limits now = record { limit = limits.limit; until = passes_at limits.deadline now }

-- an address that has been tried since then is waited for no longer: its limit has passed, or the deadline
abbrev pub is_given_up : Bounds → ℕ → ℕ → Bool
is_given_up bounds since now = has_ended_by (passes_at bounds.limit since) now || has_ended_by bounds.until now

-- when that is
abbrev pub gives_up_at : Bounds → ℕ → Option ℕ
gives_up_at bounds since = sooner bounds.until (passes_at bounds.limit since)
