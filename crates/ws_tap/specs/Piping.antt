-- A pipe from one end to the other: what it holds, and what each call makes of it.
use Rattle.std.specs.Prelude.{◌≡◌, ℕ, ◌+◌, ◌-◌, ◌^◌, ◌≤◌, min, Bool, true, false, List, [], ◌∷◌, ◌++◌, length, drop}
use Rattle.ws_tap.specs.declared.pipe.PipeStage.{PipeStage}
use Rattle.ws_tap.specs.declared.pipe.PipeStage.TheVariants as stage
use Rattle.ws_tap.specs.Told.{Passage}

-- the bytes that came and were not taken yet, how many came in all, and how far the direction has come
pub record PipeValue : Type 0 where
  pub held : List ℕ
  pub total : ℕ
  pub stage : PipeStage

-- ---- what each call makes of it

-- nothing has come
abbrev pub new_pipe : PipeValue
new_pipe = record { held = []; total = 0; stage = stage.Open }

-- more may come where it holds nothing: as many bytes as it has room for, and as 64 bits can count
abbrev pub room_at : List ℕ → PipeStage → ℕ → ℕ
room_at [] stage.Open total = min ((2 ^ 64 - 1) - total) 65536
room_at [] stage.Ended total = 0
room_at [] stage.Passed total = 0
room_at (byte ∷ held) stage total = 0

abbrev pub room_in : PipeValue → ℕ
room_in pipe = room_at pipe.held pipe.stage pipe.total

-- these bytes came; or the end of the direction did
abbrev pub with_piece : PipeValue → List ℕ → PipeValue
with_piece pipe piece = record { held = piece; total = pipe.total + length piece; stage = pipe.stage }

abbrev pub with_end_come : PipeValue → PipeValue
with_end_come pipe = record pipe { stage = stage.Ended }

-- so many bytes were taken; or the end was passed on
abbrev pub with_bytes_taken : PipeValue → ℕ → PipeValue
with_bytes_taken pipe count = record pipe { held = drop count pipe.held }

abbrev pub with_direction_ended : PipeValue → PipeValue
with_direction_ended pipe = record pipe { stage = stage.Passed }

-- the end is to be passed on where it came and nothing is held
abbrev pub wants_end_at : List ℕ → PipeStage → Bool
wants_end_at [] stage.Open = false
wants_end_at [] stage.Ended = true
wants_end_at [] stage.Passed = false
wants_end_at (byte ∷ held) stage = false

abbrev pub wants_end_of : PipeValue → Bool
wants_end_of pipe = wants_end_at pipe.held pipe.stage

-- the end that sends has ended its direction; and that was passed on
abbrev pub has_ended : PipeStage → Bool
has_ended stage.Open = false
has_ended stage.Ended = true
has_ended stage.Passed = true

abbrev pub is_passed : PipeStage → Bool
is_passed stage.Open = false
is_passed stage.Ended = false
is_passed stage.Passed = true

-- ---- what happened to its direction

-- how far a direction has come, by whether its end has ended it, and whether that was passed on
abbrev pub stage_of : Bool → Bool → PipeStage
stage_of false passed = stage.Open
stage_of true false = stage.Ended
stage_of true true = stage.Passed

-- a pipe stands so behind what happened to its direction: it holds what came and was not taken
pub record IsPipeOf (pipe : PipeValue) (p : Passage) : Type 0 where
  pub begins : p.came ≡ p.taken ++ pipe.held
  pub near : length pipe.held ≤ 65536
  pub count : pipe.total ≡ length p.came
  pub stage : pipe.stage ≡ stage_of p.ended p.passed
  pub over : p.passed ≡ true → (p.ended ≡ true) × (pipe.held ≡ [])
