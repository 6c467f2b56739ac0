-- What happens in a slot of a loop: what its stream does, and what the clock says.
use Rattle.std.specs.Prelude.{ℕ, ◌+◌, ◌<◌, ◌≤◌, ⊤, Bool, true, false, nat_lt, List, [], ◌∷◌, ◌++◌, length, take}
use Rattle.std.specs.Prelude.{Option, Some, None}
use Rattle.std.specs.List.{flat_map}
use Rattle.ws_machines.specs.Told.{Told}
use Rattle.ws_machines.specs.Told.Told.{Came, Ended, ReadFailed, Reported, Taken, WriteFailed}
use Rattle.ws_machines.specs.declared.stream.StreamEvent.{StreamEvent}
use Rattle.ws_machines.specs.declared.stream.StreamEvent.TheVariants as event
use Rattle.ws_loops.specs.declared.non_blocking.TryRead.{TryRead}
use Rattle.ws_loops.specs.declared.non_blocking.TryRead.TheVariants as read
use Rattle.ws_loops.specs.declared.non_blocking.TryWrite.{TryWrite}
use Rattle.ws_loops.specs.declared.non_blocking.TryWrite.TheVariants as write

-- One thing that happened: the stream did this. It was asked for more bytes than it had, and gave these. It was asked
-- for bytes and had none; it was given bytes and took none. The lines of the machine were taken. The clock has passed a
-- limit, of which the machine is told this. The stream was found ready to be read, or to be written.
pub data Deed : Type 0 where
  Did : Told → Deed
  Emptied : List ℕ → Deed
  HadNone : Deed
  TookNone : Deed
  Showed : List ℕ → Deed
  Passed : Told → Deed
  Woken : Bool → Bool → Deed

-- the same, with the time by which it happened
pub record Happened : Type 0 where
  pub at : ℕ
  pub deed : Deed

-- what the machine is told of it: what the stream did, that its lines were taken, and what the clock says
abbrev pub told_by : Deed → List Told
told_by (Did told) = told ∷ []
told_by (Emptied bytes) = Came bytes ∷ []
told_by HadNone = []
told_by TookNone = []
told_by (Showed lines) = Reported lines ∷ []
told_by (Passed told) = told ∷ []
told_by (Woken readable writable) = []

-- what the stream did of it: all but what others did
abbrev pub done_by : Deed → List Deed
done_by (Did told) = Did told ∷ []
done_by (Emptied bytes) = Emptied bytes ∷ []
done_by HadNone = HadNone ∷ []
done_by TookNone = TookNone ∷ []
done_by (Showed lines) = []
done_by (Passed told) = []
done_by (Woken readable writable) = []

-- the lines that were taken
abbrev pub shown_by : Deed → List (List ℕ)
shown_by (Did told) = []
shown_by (Emptied bytes) = []
shown_by HadNone = []
shown_by TookNone = []
shown_by (Showed lines) = lines ∷ []
shown_by (Passed told) = []
shown_by (Woken readable writable) = []

abbrev pub all_told : List Happened → List Told
all_told happened = flat_map (λ x. told_by x.deed) happened

abbrev pub all_done : List Happened → List Deed
all_done happened = flat_map (λ x. done_by x.deed) happened

abbrev pub all_shown : List Happened → List (List ℕ)
all_shown happened = flat_map (λ x. shown_by x.deed) happened

-- how many bytes were moved
abbrev pub told_len : Told → ℕ
told_len (Came bytes) = length bytes
told_len (Taken bytes) = length bytes
told_len _ = 0

abbrev pub moved_by : Deed → ℕ
moved_by (Did told) = told_len told
moved_by (Emptied bytes) = length bytes
moved_by HadNone = 0
moved_by TookNone = 0
moved_by (Showed lines) = 0
moved_by (Passed told) = 0
moved_by (Woken readable writable) = 0

abbrev pub all_moved : List Happened → ℕ
all_moved [] = 0
all_moved (x ∷ happened) = moved_by x.deed + all_moved happened

-- ---- calls, as what the stream did

-- these bytes came: all that the stream had, or as many as it was asked for
abbrev pub came_deed : Bool → List ℕ → Deed
came_deed true bytes = Emptied bytes
came_deed false bytes = Did (Came bytes)

-- a read into a room that then holds these bytes
abbrev pub read_deed : List ℕ → TryRead → Deed
read_deed room (read.Came count) = came_deed (nat_lt count (length room)) (take count room)
read_deed room read.Ended = Did Ended
read_deed room read.Failed = Did ReadFailed
read_deed room read.NotReady = HadNone

-- a write of these bytes
abbrev pub write_deed : List ℕ → TryWrite → Deed
write_deed bytes (write.Taken count) = Did (Taken (take count bytes))
write_deed bytes write.Failed = Did WriteFailed
write_deed bytes write.NotReady = TookNone

-- what came of a write, as a machine is told of it, if it is
abbrev pub try_write_event : TryWrite → Option StreamEvent
try_write_event (write.Taken count) = Some (event.Taken count)
try_write_event write.Failed = Some event.WriteFailed
try_write_event write.NotReady = None

-- a read has brought at least one byte, and no more than fit; a write has taken at least one, and no more than it was
-- given
abbrev pub FitsTryRead : ℕ → TryRead → Type 0
FitsTryRead room (read.Came count) = (0 < count) × (count ≤ room)
FitsTryRead room _ = ⊤

abbrev pub FitsTryWrite : ℕ → TryWrite → Type 0
FitsTryWrite len (write.Taken count) = (0 < count) × (count ≤ len)
FitsTryWrite len _ = ⊤

-- each list of what the stream did until the first state, followed by this, is one of what it did until the second
abbrev pub HasDone : {S : Type 0} → (S → S → List Deed → Type 0) → S → S → List Deed → Type 0
HasDone {S} did old new more = (start : S) (deeds : List Deed) → did start old deeds → did start new (deeds ++ more)
