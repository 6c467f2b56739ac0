-- The numbers under which the system tells of what was found ready: the listener has one of its own.
use Rattle.std.specs.Prelude.{ℕ, zero, suc, ◌+◌, ◌-◌, ◌^◌, min}
use Rattle.ws_loops.specs.declared.poller.Mark.{Mark}
use Rattle.ws_loops.specs.declared.poller.Mark.TheVariants.{Listener, Place}

-- no list has so many places that the greatest number would be that of two
abbrev pub token_number : Mark → ℕ
token_number Listener = 0
token_number (Place at) = min (at + 1) (2 ^ 64 - 1)

abbrev pub token_mark : ℕ → Mark
token_mark zero = Listener
token_mark (suc at) = Place at
