-- That a run still waits for its tested end, which is told once, where no limit of time ends a wait.
use Rattle.std.specs.Prelude.{ℕ, List, [], ◌∷◌, ◌++◌, codes}
use Rattle.std.specs.List.{concat}
use Rattle.ws_frame.specs.Devices.{Device, IsUntouched}
use Rattle.wst_commands.specs.Devices.{Tells}
use Rattle.wst_commands.specs.declared.time_limit.TimeLimit.{TimeLimit}
use Rattle.wst_commands.specs.declared.time_limit.TimeLimit.TheVariants.{Seconds, Unlimited}
use Rattle.wst_sockets.specs.declared.waiting.Notice.{Notice}
use Rattle.wst_sockets.specs.declared.waiting.Notice.TheVariants.{Needless, Pending, Told}

-- what a run has to tell whose end is waited for so long
abbrev pub notice_of : TimeLimit → Notice
notice_of Unlimited = Pending
notice_of (Seconds seconds) = Needless

-- the line of a wait, by the name of the case that waits
abbrev pub wait_line : List ℕ → List ℕ
wait_line name = concat (codes "still waiting: " ∷ name ∷ codes " (--timeout SECONDS ends a wait)\n" ∷ [])

-- what is told at a wait of ten seconds in which nothing came
abbrev pub wait_notes : Notice → List ℕ → List (List ℕ)
wait_notes Pending name = wait_line name ∷ []
wait_notes Told name = []
wait_notes Needless name = []

-- and what is left to be told behind it
abbrev pub after_wait : Notice → Notice
after_wait Pending = Told
after_wait Told = Told
after_wait Needless = Needless

-- what is told at all such waits of a run, in their order
abbrev pub notes_of_waits : Notice → List (List ℕ) → List (List ℕ)
notes_of_waits notice [] = []
notes_of_waits notice (name ∷ names) = wait_notes notice name ++ notes_of_waits (after_wait notice) names

-- the device was told that
abbrev pub TellsWait : Notice → List ℕ → Device → Type 0
TellsWait Pending name output = Tells (wait_line name) output
TellsWait Told name output = IsUntouched output
TellsWait Needless name output = IsUntouched output
