-- What a session takes at most.
use Rattle.std.specs.Prelude.{ℕ, ◌+◌, ◌≤◌}

-- the most payload bytes of one message, and of one data frame
-- our choice: section 10.4 asks for such limits and leaves them to the endpoint
pub record LimitsValue : Type 0 where
  pub max_message : ℕ
  pub max_frame : ℕ

-- from one byte to 16,777,216, and a frame has no greater one than a message
pub record AreLimits (limits : LimitsValue) : Type 0 where
  pub least : 1 ≤ limits.max_frame
  pub frame : limits.max_frame ≤ limits.max_message
  pub most : limits.max_message ≤ 16777216

-- what a session keeps beside the payload of the open message and of a data frame, at most: a header of 14 bytes, and a
-- control frame's payload of 125
abbrev pub most_beside : ℕ
most_beside = 14 + 125
