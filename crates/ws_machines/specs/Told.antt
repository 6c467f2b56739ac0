-- What a machine is told of its stream, in its order.
use Rattle.std.specs.Prelude.{ℕ, Bool, List, [], take}
use Rattle.std.specs.List.{flat_map}
use Rattle.ws_machines.specs.declared.stream.StreamEvent.{StreamEvent}
use Rattle.ws_machines.specs.declared.stream.StreamEvent.TheVariants as event
use Rattle.ws_machines.specs.declared.stream.ReadOutcome.{ReadOutcome}
use Rattle.ws_machines.specs.declared.stream.ReadOutcome.TheVariants as read
use Rattle.ws_machines.specs.declared.stream.WriteOutcome.{WriteOutcome}
use Rattle.ws_machines.specs.declared.stream.WriteOutcome.TheVariants as write

-- One thing that happened: these bytes came; the stream of the other end ended; a read failed; nothing came for the
-- time limit. These bytes were taken, of those that were to be written; a write failed, or nothing of it was taken for
-- the time limit. The own direction was ended. These lines were reported. The deadline has passed, and the time limit
-- since the last byte that was taken too, or not.
pub data Told : Type 0 where
  Came : List ℕ → Told
  Ended : Told
  ReadFailed : Told
  NothingCame : Told
  Taken : List ℕ → Told
  WriteFailed : Told
  DirectionEnded : Told
  Reported : List ℕ → Told
  DeadlinePassed : Bool → Told

-- ---- all that was moved

abbrev pub came_by : Told → List ℕ
came_by (Came bytes) = bytes
came_by _ = []

abbrev pub taken_by : Told → List ℕ
taken_by (Taken bytes) = bytes
taken_by _ = []

-- all bytes that came, and all that were taken, one after the other
abbrev pub all_came : List Told → List ℕ
all_came told = flat_map came_by told

abbrev pub all_taken : List Told → List ℕ
all_taken told = flat_map taken_by told

-- ---- calls, as what was told

-- an event at a machine that wants these bytes written, and these lines reported
abbrev pub told_of : List ℕ → List ℕ → StreamEvent → Told
told_of bytes lines (event.Came piece) = Came piece.now
told_of bytes lines event.Ended = Ended
told_of bytes lines event.ReadFailed = ReadFailed
told_of bytes lines event.NothingCame = NothingCame
told_of bytes lines (event.Taken count) = Taken (take count bytes)
told_of bytes lines event.WriteFailed = WriteFailed
told_of bytes lines event.DirectionEnded = DirectionEnded
told_of bytes lines event.Reported = Reported lines
told_of bytes lines (event.DeadlinePassed waited) = DeadlinePassed waited

-- what came of a read into a room that then holds these bytes
abbrev pub told_by_read : List ℕ → ReadOutcome → Told
told_by_read room (read.Came count) = Came (take count room)
told_by_read room read.Ended = Ended
told_by_read room read.Failed = ReadFailed
told_by_read room read.NothingCame = NothingCame
told_by_read room (read.DeadlinePassed waited) = DeadlinePassed waited

-- what came of a write of these bytes
abbrev pub told_by_write : List ℕ → WriteOutcome → Told
told_by_write bytes (write.Taken count) = Taken (take count bytes)
told_by_write bytes write.Failed = WriteFailed
told_by_write bytes (write.DeadlinePassed waited) = DeadlinePassed waited
