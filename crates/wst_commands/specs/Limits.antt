-- The limits that words give.
use Rattle.std.specs.Prelude.{ℕ}
use Rattle.ws_session.specs.Limits.{LimitsValue}

-- what an end takes at most, of a message and of a data frame
abbrev pub limits_given : ℕ → ℕ → LimitsValue
limits_given message frame = record { max_message = message; max_frame = frame }
