-- A slot of a loop: a stream and the machine that is told of it, step by step and in a turn.
use Rattle.std.specs.Prelude.{◌≡◌, ℕ, ◌+◌, ◌*◌, ◌<◌, ◌≤◌, ◌⊎◌, ⊤, true, false, if◌then◌else◌}
use Rattle.std.specs.Prelude.{List, [], ◌∷◌, ◌++◌, length, Option, Result, IfErr}
use Rattle.ws_machines.specs.Told.{Told}
use Rattle.ws_machines.specs.Told.Told.{Came, DeadlinePassed, DirectionEnded, Ended, NothingCame, ReadFailed, Reported}
use Rattle.ws_machines.specs.Told.Told.{Taken, WriteFailed}
use Rattle.ws_machines.specs.Machines.{Extends, HasNext, IsRunning, Wants}
use Rattle.ws_loops.specs.Deeds.{Deed, Happened, HasDone, all_done, all_moved, all_shown, all_told, done_by, moved_by}
use Rattle.ws_loops.specs.Deeds.{shown_by, told_by}
use Rattle.ws_loops.specs.Deeds.Deed.{Did, Emptied, HadNone, Passed, Showed, TookNone, Woken}
use Rattle.ws_loops.specs.Paces.{has_any_bytes, has_waited, is_at, is_due, has_ended_by, is_read_due, is_wait_late}
use Rattle.ws_loops.specs.Paces.{is_write_due, is_write_late, pace_after, told_pace}
use Rattle.ws_loops.specs.Sinks.{HasTakenLines, said_at}
use Rattle.ws_loops.specs.declared.pace.Pace.{Pace}
use Rattle.ws_loops.specs.declared.poller.Readiness.{Readiness}
use Rattle.ws_loops.specs.declared.serving.StepFault.{StepFault}
use Rattle.ws_loops.specs.declared.serving.StepFault.TheVariants as fault
use Rattle.ws_loops.specs.declared.slot.Slot.{Slot}

-- ---- what is done next

-- nothing goes before a read or a write: no lines are to be reported, no direction to be ended, no deadline has passed
pub record IsFree (wants : Wants) (p : Pace) (now : ℕ) : Type 0 where
  pub goes_on : wants.done ≡ false
  pub reported : wants.report ≡ []
  pub ended : wants.end ≡ false
  pub early : has_ended_by p.deadline now ≡ false

-- Lines are reported first, then the own direction is ended, then the deadline is told. Then it is read where it is to
-- be, and then written. Where neither is to be done, a limit that has passed is told.
abbrev pub IsNextDeed : Wants → Pace → ℕ → Deed → Type 0
IsNextDeed wants p now (Woken readable writable) = ⊤
IsNextDeed wants p now (Emptied bytes) = IsFree wants p now × (is_read_due wants p now ≡ true)
IsNextDeed wants p now HadNone = IsFree wants p now × (is_read_due wants p now ≡ true)
IsNextDeed wants p now TookNone = IsFree wants p now × ((is_read_due wants p now ≡ false)
    × (is_write_due wants p now ≡ true))
IsNextDeed wants p now (Showed lines) = (wants.done ≡ false) × (lines ≡ wants.report)
IsNextDeed wants p now (Did (Reported lines)) = ⊥
IsNextDeed wants p now (Did DirectionEnded) = (wants.done ≡ false) × (wants.report ≡ [])
IsNextDeed wants p now (Did (Came bytes)) = IsFree wants p now × (is_read_due wants p now ≡ true)
IsNextDeed wants p now (Did Ended) = IsFree wants p now × (is_read_due wants p now ≡ true)
IsNextDeed wants p now (Did ReadFailed) = IsFree wants p now × (is_read_due wants p now ≡ true)
IsNextDeed wants p now (Did (Taken bytes)) = IsFree wants p now × ((is_read_due wants p now ≡ false)
    × (is_write_due wants p now ≡ true))
IsNextDeed wants p now (Did WriteFailed) = IsFree wants p now × ((is_read_due wants p now ≡ false)
    × (is_write_due wants p now ≡ true))
IsNextDeed wants p now (Did NothingCame) = ⊥
IsNextDeed wants p now (Did (DeadlinePassed waited)) = ⊥
IsNextDeed wants p now (Passed (DeadlinePassed waited)) = (wants.done ≡ false) × ((wants.report ≡ [])
    × ((wants.end ≡ false) × ((has_ended_by p.deadline now ≡ true) × (waited ≡ has_waited p now))))
IsNextDeed wants p now (Passed WriteFailed) = IsFree wants p now × ((is_read_due wants p now ≡ false)
    × ((is_write_due wants p now ≡ false) × (is_write_late wants p now ≡ true)))
IsNextDeed wants p now (Passed NothingCame) = IsFree wants p now × ((is_read_due wants p now ≡ false)
    × ((is_write_due wants p now ≡ false) × (is_wait_late wants p now ≡ true)))
IsNextDeed wants p now (Passed _) = ⊥

-- ---- a step, and steps

-- One thing happened: the machine was told of it what it is to be told, the stream did what it did of it, the limits
-- are those after it, and it was next.
pub record IsStep {M S : Type 0} (agrees : M → M → List Told → Type 0) (wants : M → Wants)
    (did : S → S → List Deed → Type 0) (old : Slot M S) (now : ℕ) (deed : Deed) (new : Slot M S) : Type 0 where
  pub told : Extends agrees old.machine new.machine (told_by deed)
  pub done : HasDone did old.stream new.stream (done_by deed)
  pub paced : new.pace ≡ pace_after (wants old.machine) (wants new.machine) now deed old.pace
  pub order : IsNextDeed (wants old.machine) old.pace now deed

-- these things happened one after the other, at times that don't go back, from the first to the last
abbrev pub AreSteps : {M S : Type 0} → (M → M → List Told → Type 0) → (M → Wants) → (S → S → List Deed → Type 0)
    → ℕ → Slot M S → List Happened → ℕ → Slot M S → Type 0
AreSteps agrees wants did from old [] to new = (from ≤ to) × (old ≡ new)
AreSteps {M} {S} agrees wants did from old (x ∷ happened) to new = (from ≤ x.at) × ((next : Slot M S)
    × IsStep agrees wants did old x.at x.deed next × AreSteps agrees wants did x.at next happened to new)

-- These things happened in a slot: its machine was told just what they tell, in their order, its stream did just what
-- they say that it did, and each was next.
pub record HasRunBy {M S : Type 0} (agrees : M → M → List Told → Type 0) (wants : M → Wants)
    (did : S → S → List Deed → Type 0) (from : ℕ) (old : Slot M S) (happened : List Happened) (to : ℕ) (new : Slot M S)
    : Type 0 where
  pub told : Extends agrees old.machine new.machine (all_told happened)
  pub done : HasDone did old.stream new.stream (all_done happened)
  pub steps : AreSteps agrees wants did from old happened to new

-- some things happened in it
abbrev pub HasRun : {M S : Type 0} → (M → M → List Told → Type 0) → (M → Wants) → (S → S → List Deed → Type 0)
    → ℕ → ℕ → Slot M S → Slot M S → Type 0
HasRun agrees wants did from to old new = (happened : List Happened)
    × HasRunBy agrees wants did from old happened to new

-- ---- memory runs out for it

-- Memory ran out for a machine that wanted this: no more of its lines were taken, or those that it wanted to be
-- reported, of which it could not be told.
abbrev pub AreItsLast : Wants → List (List ℕ) → Type 0
AreItsLast wants lines = (lines ≡ []) ⊎ ((0 < length wants.report) × (lines ≡ wants.report ∷ []))

-- It ran so far since the first time, until one that is no later than the second. Something was due in it then, and
-- memory ran out for that. Its lines are those of what happened, and its last ones.
pub record HasBroken {M S : Type 0} (agrees : M → M → List Told → Type 0) (wants : M → Wants)
    (did : S → S → List Deed → Type 0) (from to : ℕ) (old : Slot M S) (lines : List (List ℕ)) : Type 0 where
  pub happened : List Happened
  pub at : ℕ
  pub last : Slot M S
  pub run : HasRunBy agrees wants did from old happened at last
  pub before : at ≤ to
  pub was_due : is_due (wants last.machine) last.pace at ≡ true
  pub more : List (List ℕ)
  pub its_last : AreItsLast (wants last.machine) more
  pub shown : lines ≡ all_shown happened ++ more

-- ---- a turn

-- at most so many bytes of a slot are moved in a round
abbrev pub share_len : ℕ
share_len = 65536

-- It was served until nothing was due by now, or all of its share was moved; its lines are these.
pub record HasServedShare {M S : Type 0} (agrees : M → M → List Told → Type 0) (wants : M → Wants)
    (did : S → S → List Deed → Type 0) (now : ℕ) (old new : Slot M S) (lines : List (List ℕ)) : Type 0 where
  pub happened : List Happened
  pub run : HasRunBy agrees wants did now old happened now new
  pub shown : all_shown happened ≡ lines
  pub share : all_moved happened ≤ share_len
  pub served : (is_due (wants new.machine) new.pace now ≡ false) ⊎ (all_moved happened ≡ share_len)

-- In a round it was woken as its stream was found, and then served; its lines are these.
pub record HasTurn {M S : Type 0} (agrees : M → M → List Told → Type 0) (wants : M → Wants)
    (did : S → S → List Deed → Type 0) (ready : Readiness) (now : ℕ) (old new : Slot M S) (lines : List (List ℕ))
    : Type 0 where
  pub happened : List Happened
  pub run : HasRunBy agrees wants did now old
      (record { at = now; deed = Woken ready.read ready.write } ∷ happened) now new
  pub shown : all_shown happened ≡ lines
  pub share : all_moved happened ≤ share_len
  pub served : (is_due (wants new.machine) new.pace now ≡ false) ⊎ (all_moved happened ≡ share_len)

-- it was told something since some state, and it is done or wants something
pub record IsAble {M : Type 0} (agrees : M → M → List Told → Type 0) (wants : M → Wants) (machine : M) : Type 0 where
  pub running : IsRunning agrees machine
  pub goes_on : HasNext (wants machine)

-- so much can still happen to it at this time: what can to its machine, and that it is asked and given bytes in vain
abbrev pub in_vain : Option ℕ → ℕ → ℕ
in_vain time now = if is_at time now then 0 else 1

abbrev pub slot_left : {M S : Type 0} → (M → ℕ) → Slot M S → ℕ → ℕ
slot_left left slot now = left slot.machine * 3 + (in_vain slot.pace.idle now + in_vain slot.pace.full now)

-- One thing that was due was done, by which so many bytes were moved, and these lines taken, and less can happen from
-- then on.
pub record HasStepped {M S : Type 0} (agrees : M → M → List Told → Type 0) (wants : M → Wants)
    (did : S → S → List Deed → Type 0) (left : M → ℕ) (now : ℕ) (old new : Slot M S) (moved : ℕ)
    (lines : List (List ℕ)) : Type 0 where
  pub deed : Deed
  pub step : IsStep agrees wants did old now deed new
  pub moved_by : moved_by deed ≡ moved
  pub shown : shown_by deed ≡ lines
  pub able : IsAble agrees wants new.machine
  pub nears : slot_left left new now < slot_left left old now

-- The machine was told this, and is able to go on; its limits are those after it.
pub record HasToldOne {M S : Type 0} (agrees : M → M → List Told → Type 0) (wants : M → Wants) (left : M → ℕ) (now : ℕ)
    (said : Told) (old new : Slot M S) : Type 0 where
  pub told : Extends agrees old.machine new.machine (said ∷ [])
  pub able : IsAble agrees wants new.machine
  pub paced : new.pace ≡ told_pace (has_any_bytes (wants old.machine).write) (wants new.machine).waits_anew now said
      old.pace
  pub nears : left new.machine < left old.machine

-- some lines were taken of it, each with its place
abbrev pub PutsSome : {K : Type 0} → (K → K → List (ℕ × List ℕ) → Type 0) → ℕ → K → K → (List (List ℕ) → Type 0)
    → Type 0
PutsSome heard at old new P = (lines : List (List ℕ)) × HasTakenLines heard old new (said_at at lines) × P lines

-- where its lines were not taken, this holds
abbrev pub AtNotTaken : {F : Type 0} → Type 0 → StepFault F → Type 0
AtNotTaken P fault.NoMemory = ⊤
AtNotTaken P (fault.NotTaken why) = P

abbrev pub IfNotTaken : {A F : Type 0} → Result A (StepFault F) → Type 0 → Type 0
IfNotTaken result P = IfErr result (AtNotTaken P)

-- where memory ran out for its machine, this holds
abbrev pub AtNoMemory : {F : Type 0} → Type 0 → StepFault F → Type 0
AtNoMemory P fault.NoMemory = P
AtNoMemory P (fault.NotTaken why) = ⊤

abbrev pub IfNoMemory : {A F : Type 0} → Result A (StepFault F) → Type 0 → Type 0
IfNoMemory result P = IfErr result (AtNoMemory P)
