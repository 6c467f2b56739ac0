-- Machines: what one wants next, what it may be told then, and what it was told.
use Rattle.std.specs.Prelude.{◌≡◌, ℕ, ◌<◌, ◌≤◌, ◌⊎◌, ⊤, Bool, true, false, List, [], ◌∷◌, ◌++◌, length}
use Rattle.ws_machines.specs.Told.{Told, told_of}
use Rattle.ws_machines.specs.Told.Told.{DeadlinePassed, DirectionEnded, Reported, Taken, WriteFailed}
use Rattle.ws_machines.specs.declared.stream.StreamEvent.{StreamEvent}
use Rattle.ws_machines.specs.declared.stream.StreamEvent.TheVariants as event
use Rattle.ws_machines.specs.declared.stream.ReadOutcome.{ReadOutcome}
use Rattle.ws_machines.specs.declared.stream.ReadOutcome.TheVariants as read
use Rattle.ws_machines.specs.declared.stream.WriteOutcome.{WriteOutcome}
use Rattle.ws_machines.specs.declared.stream.WriteOutcome.TheVariants as write

-- ---- what is wanted

-- What a machine wants next: these bytes to be written, or none; these lines to be reported, or none; at most so many
-- bytes to be read, or none; its own direction to be ended, or not. Whether the time limit of what it waits for begins
-- anew by now. Or it is done.
pub record Wants : Type 0 where
  pub write : List ℕ
  pub report : List ℕ
  pub room : ℕ
  pub end : Bool
  pub waits_anew : Bool
  pub done : Bool

-- it wants something, or is done: so what it is told next can be waited for
abbrev pub HasNext : Wants → Type 0
HasNext wants = (wants.done ≡ true) ⊎ ((0 < length wants.report) ⊎ ((wants.end ≡ true)
    ⊎ ((0 < length wants.write) ⊎ (0 < wants.room))))

-- ---- what may be told

-- What was wanted may have happened. Nothing has come for the time limit only where nothing is to be written: the limit
-- begins with the last byte that is taken. The deadline may pass at any time.
abbrev pub WasWanted : Wants → StreamEvent → Type 0
WasWanted wants (event.Came piece) = (0 < length piece.now) × (length piece.now ≤ wants.room)
WasWanted wants event.Ended = 0 < wants.room
WasWanted wants event.ReadFailed = 0 < wants.room
WasWanted wants event.NothingCame = (0 < wants.room) × (wants.write ≡ [])
WasWanted wants (event.Taken count) = (0 < count) × (count ≤ length wants.write)
WasWanted wants event.WriteFailed = 0 < length wants.write
WasWanted wants event.DirectionEnded = wants.end ≡ true
WasWanted wants event.Reported = 0 < length wants.report
WasWanted wants (event.DeadlinePassed waited) = ⊤

-- a machine that is done is told nothing more
abbrev pub MayBeTold : Wants → StreamEvent → Type 0
MayBeTold wants happened = (wants.done ≡ false) × WasWanted wants happened

-- an event as what a machine that wants this is told by it
abbrev pub told_at : Wants → StreamEvent → Told
told_at wants happened = told_of wants.write wants.report happened

-- ---- what was told

-- each list of what was told by the first state, followed by this, is one of what was told by the second
abbrev pub Extends : {X : Type 0} → (X → X → List Told → Type 0) → X → X → List Told → Type 0
Extends {X} agrees old new more = (start : X) (told : List Told) → agrees start old told
    → agrees start new (told ++ more)

-- each list of what was told by the first state is one of what was told by the second
abbrev pub KeepsTold : {X : Type 0} → (X → X → List Told → Type 0) → X → X → Type 0
KeepsTold {X} agrees old new = (start : X) (told : List Told) → agrees start old told → agrees start new told

-- it was told some list since some state
abbrev pub IsRunning : {X : Type 0} → (X → X → List Told → Type 0) → X → Type 0
IsRunning {X} agrees now = (start : X) × (told : List Told) × agrees start now told

-- ---- what a stream does

-- a read has brought at least one byte, and no more than fit; a write has taken at least one, and no more than it was
-- given
abbrev pub FitsRead : ℕ → ReadOutcome → Type 0
FitsRead room (read.Came count) = (0 < count) × (count ≤ room)
FitsRead room _ = ⊤

abbrev pub FitsWrite : ℕ → WriteOutcome → Type 0
FitsWrite len (write.Taken count) = (0 < count) × (count ≤ len)
FitsWrite len _ = ⊤

-- what came of a write, as a machine is told of it
abbrev pub write_event : WriteOutcome → StreamEvent
write_event (write.Taken count) = event.Taken count
write_event write.Failed = event.WriteFailed
write_event (write.DeadlinePassed waited) = event.DeadlinePassed waited

-- a stream has done one thing more
abbrev pub DidOne : {S : Type 0} → (S → S → List Told → Type 0) → S → S → Type 0
DidOne {S} did old new = (event : Told) × Extends did old new (event ∷ [])

-- ---- a machine and its stream

-- What a machine wants is done in this order: lines are reported, then its own direction is ended, then bytes are
-- written, and then it is read. So what it is told is the first of these that it wants. The deadline passes at a read
-- or a write.
abbrev pub IsFirstWanted : Wants → Told → Type 0
IsFirstWanted wants (Reported lines) = ⊤
IsFirstWanted wants DirectionEnded = wants.report ≡ []
IsFirstWanted wants (Taken bytes) = (wants.report ≡ []) × (wants.end ≡ false)
IsFirstWanted wants WriteFailed = (wants.report ≡ []) × (wants.end ≡ false)
IsFirstWanted wants (DeadlinePassed waited) = (wants.report ≡ []) × (wants.end ≡ false)
IsFirstWanted wants _ = (wants.report ≡ []) × ((wants.end ≡ false) × (wants.write ≡ []))

-- One thing that the machine wanted was done by its stream, and the machine was told just that.
pub record ServedOne {M S : Type 0} (agrees : M → M → List Told → Type 0) (wants : M → Wants)
    (did : S → S → List Told → Type 0) (old_machine new_machine : M) (old_stream new_stream : S) : Type 0 where
  pub event : Told
  pub told : Extends agrees old_machine new_machine (event ∷ [])
  pub done : Extends did old_stream new_stream (event ∷ [])
  pub order : IsFirstWanted (wants old_machine) event

-- What the machine was told is what the stream did, in its order: no byte is lost, and none is told twice.
pub record RunTogether {M S : Type 0} (agrees : M → M → List Told → Type 0) (did : S → S → List Told → Type 0)
    (old_machine new_machine : M) (old_stream new_stream : S) : Type 0 where
  pub more : List Told
  pub told : Extends agrees old_machine new_machine more
  pub done : Extends did old_stream new_stream more
