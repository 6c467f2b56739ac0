-- A loop, as its users see it, and what has happened in it.
use Rattle.std.specs.Prelude.{◌≡◌, ℕ, ◌⊎◌, ⊤, true, Bool, List, Option, None, Some, length, slice_get}
use Rattle.ws_machines.specs.Machines.{Wants}
use Rattle.ws_loops.specs.Limits.{AreAllNone, IsTree}
use Rattle.ws_loops.specs.Loops.{IsTicketed}
use Rattle.ws_loops.specs.Paces.{has_ended_by}
use Rattle.ws_loops.specs.Places.{AreEmpty, IsOverAt, IsFirstToEnd, NoneIsOver}
use Rattle.ws_loops.specs.declared.inside.Inside.{Inside}
use Rattle.ws_loops.specs.declared.looping.Ending.{Ending}
use Rattle.ws_loops.specs.declared.looping.Ending.TheVariants as ending
use Rattle.ws_loops.specs.declared.places.Place.{Place}
use Rattle.ws_loops.specs.declared.places.Seats.{Seats}
use Rattle.ws_loops.specs.declared.poller.Readiness.{Readiness}

-- What stands in its places; the number that each was given as it ended, until it is taken; and whether it was told
-- that no client can be taken, and nothing has ended since.
pub record LoopValue (M S : Type 0) : Type 0 where
  pub places : List (Place M S)
  pub tickets : List (Option ℕ)
  pub deaf : Bool

abbrev pub loop_value : {M S : Type 0} → Inside M S → LoopValue M S
loop_value inside = record {
  places = inside.seats.places.items;
  tickets = inside.seats.tickets.items;
  deaf = inside.door.deaf;
}

-- What holds by now where this has happened: what went on in this place has ended, and first of all; the time has come
-- until which was waited, and nothing has ended; nothing stands in any place.
abbrev pub IsEnding : {M S : Type 0} → (M → Wants) → Option ℕ → ℕ → LoopValue M S → Ending → Type 0
IsEnding wants until now l (ending.Ended at) = IsOverAt wants l.places at × IsFirstToEnd l.tickets at
IsEnding wants until now l ending.TooLate = (has_ended_by until now ≡ true) × NoneIsOver wants l.places
IsEnding wants until now l ending.NoSlot = AreEmpty l.places

-- This holds where a round was made before this has happened: none was only where what went on in the place had its
-- number before, or nothing stands in any.
abbrev pub IfRoundMade : List (Option ℕ) → Ending → Type 0 → Type 0
IfRoundMade tickets (ending.Ended at) P = IsTicketed tickets at ⊎ P
IfRoundMade tickets ending.TooLate P = P
IfRoundMade tickets ending.NoSlot P = ⊤

-- So many places in which nothing stands: none is called, none has ended, and nothing is due in any.
pub record AreNewSeats {M S : Type 0} (len : ℕ) (seats : Seats M S) : Type 0 where
  pub places : length seats.places.items ≡ len
  pub empty : AreEmpty seats.places.items
  pub calls : length seats.calls.items ≡ len
  pub uncalled : (i : ℕ) (call : Option Readiness) → slice_get seats.calls.items i ≡ Some call → call ≡ None
  pub tickets : length seats.tickets.items ≡ len
  pub none : AreAllNone seats.tickets.items
  pub limits : length seats.agenda.limits.times.items ≡ len
  pub tree : IsTree seats.agenda.limits

-- nothing has changed but what is known of it
pub record AreSame {M S : Type 0} (old new : Seats M S) : Type 0 where
  pub places : new.places.items ≡ old.places.items
  pub calls : new.calls.items ≡ old.calls.items
  pub tickets : new.tickets.items ≡ old.tickets.items
  pub later : new.agenda.later.items ≡ old.agenda.later.items
  pub limits : new.agenda.limits ≡ old.agenda.limits
  pub all : new.agenda.all ≡ old.agenda.all
  pub given : new.agenda.given ≡ old.agenda.given

pub record IsSame {M S : Type 0} (old new : Inside M S) : Type 0 where
  pub seats : AreSame old.seats new.seats
  pub deaf : new.door.deaf ≡ old.door.deaf
