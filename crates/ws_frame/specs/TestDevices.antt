-- Devices for tests: when their calls fail.
use Rattle.std.specs.Prelude.{ℕ, ◌+◌, ◌-◌, ◌^◌, min, Bool, false, ◌==◌, nat_le}
use Rattle.ws_frame.specs.declared.failing.Failing.{Failing}
use Rattle.ws_frame.specs.declared.failing.Failing.TheVariants.{Never, Once, From}

-- whether the call of this number fails
abbrev pub fails_at : Failing → ℕ → Bool
fails_at Never call = false
fails_at (Once place) call = call == place
fails_at (From place) call = nat_le place call

-- one call more; the counter stops at its largest number
abbrev pub next_call : ℕ → ℕ
next_call calls = min (calls + 1) (2 ^ 64 - 1)
