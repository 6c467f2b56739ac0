-- A head of an opening handshake that is read piece by piece (RFC 6455 section 4), no further than it takes. Which
-- bytes need more, and what the others decide, is said of requests and of responses by themselves.
use Rattle.std.specs.Prelude.{◌≡◌, ℕ, ◌-◌, ◌<◌, ◌≤◌, ◌⊎◌, ⊤, min, List, [], ◌∷◌, ◌++◌, length}
use Rattle.std.specs.List.{All}
use Rattle.ws_upgrade.specs.Reading.{max_head}
use Rattle.ws_machines.specs.Told.{Told, all_came, all_taken}
use Rattle.ws_machines.specs.Told.Told.{Came, Taken}

-- ---- the bytes

-- one read brings at most so many bytes of a head
abbrev pub max_head_piece : ℕ
max_head_piece = 1024

-- so many bytes may come next for a head of which these were read
abbrev pub head_room : List ℕ → ℕ
head_room read = min max_head_piece (max_head - length read)

-- These bytes decide nothing yet: none were read, or they need more. They are less than the most that are read.
pub record IsUndecided (needs : List ℕ → Type 0) (read : List ℕ) : Type 0 where
  pub need : (read ≡ []) ⊎ needs read
  pub bound : length read < max_head

-- at most 1024 bytes were read behind bytes that need more
pub record ReadsNoFurther (needs : List ℕ → Type 0) (read : List ℕ) : Type 0 where
  pub before : List ℕ
  pub last : List ℕ
  pub parts : read ≡ before ++ last
  pub undecided : (before ≡ []) ⊎ needs before
  pub bound : length last ≤ max_head_piece

-- these bytes were read for a head, and decide so: at most 8192, and at most 1024 behind bytes that need more
pub record IsWholeHead {D : Type 0} (needs : List ℕ → Type 0) (decides : List ℕ → D → Type 0) (head : List ℕ)
    (decision : D) : Type 0 where
  pub decided : decides head decision
  pub bound : length head ≤ max_head
  pub no_further : ReadsNoFurther needs head

-- ---- what was told of them

-- bytes were taken, of those that were to be written
abbrev pub TellsTaken : Told → Type 0
TellsTaken (Taken bytes) = ⊤
TellsTaken _ = ⊥

-- bytes came, no more than one read brings of a head
abbrev pub TellsPiece : Told → Type 0
TellsPiece (Came bytes) = length bytes ≤ max_head_piece
TellsPiece _ = ⊥

-- only that bytes were taken was told, and they are these
pub record AreTaken (told : List Told) (bytes : List ℕ) : Type 0 where
  pub only : All TellsTaken told
  pub bytes_are : all_taken told ≡ bytes

-- only that pieces of a head came was told, and they are these bytes
pub record AreHeadPieces (told : List Told) (bytes : List ℕ) : Type 0 where
  pub only : All TellsPiece told
  pub bytes_are : all_came told ≡ bytes

-- the last that was told is that some bytes came
pub record EndsInPiece (told : List Told) : Type 0 where
  pub before : List Told
  pub last : List ℕ
  pub parts : told ≡ before ++ Came last ∷ []
