-- What is asked of one end of a connection at a time, and the one thing that came of it.
use Rattle.std.specs.Prelude.{◌≡◌, ℕ, ◌<◌, ◌≤◌, ⊤, Bool, true, false, List, [], ◌∷◌, length, take, Option}
use Rattle.std.specs.Prelude.{Some, None, is_some}
use Rattle.ws_machines.specs.Told.{Told}
use Rattle.ws_machines.specs.Told.Told.{Came, DeadlinePassed, DirectionEnded, Ended, NothingCame, ReadFailed, Reported}
use Rattle.ws_machines.specs.Told.Told.{Taken, WriteFailed}
use Rattle.ws_machines.specs.Machines.{Wants}
use Rattle.ws_relays.specs.declared.once.Happened.{Happened}
use Rattle.ws_relays.specs.declared.once.Happened.TheVariants as happened

-- these bytes are to be written, at most so many to be read, the direction is to be ended; and what has happened
pub record OnceValue : Type 0 where
  pub bytes : List ℕ
  pub room : ℕ
  pub ends : Bool
  pub happened : Option Happened

abbrev pub wanted_once : OnceValue → Wants
wanted_once x = record {
  write = x.bytes;
  report = [];
  room = x.room;
  end = x.ends;
  waits_anew = true;
  done = is_some x.happened;
}

-- one thing can still happen to it, where none has
abbrev pub left_of : Option Happened → ℕ
left_of None = 1
left_of (Some what) = 0

abbrev pub once_left : OnceValue → ℕ
once_left x = left_of x.happened

-- something has failed
abbrev pub has_failed_so : Happened → Bool
has_failed_so (happened.Came bytes) = false
has_failed_so happened.Ended = false
has_failed_so (happened.Taken count) = false
has_failed_so happened.DirectionEnded = false
has_failed_so happened.Failed = true

-- this is what it was told, as its user sees it
abbrev pub HappenedSo : Told → Happened → Type 0
HappenedSo (Came bytes) (happened.Came got) = got.items ≡ bytes
HappenedSo Ended happened.Ended = ⊤
HappenedSo (Taken bytes) (happened.Taken count) = count ≡ length bytes
HappenedSo DirectionEnded happened.DirectionEnded = ⊤
HappenedSo ReadFailed happened.Failed = ⊤
HappenedSo WriteFailed happened.Failed = ⊤
HappenedSo NothingCame happened.Failed = ⊤
HappenedSo (Reported lines) happened.Failed = ⊤
HappenedSo (DeadlinePassed waited) happened.Failed = ⊤
HappenedSo _ _ = ⊥

-- just this one thing was told, and it is what happened
abbrev pub HappenedBy : List Told → Happened → Type 0
HappenedBy [] what = ⊥
HappenedBy (told ∷ []) what = HappenedSo told what
HappenedBy (told ∷ next ∷ more) what = ⊥

-- it was asked for: so many bytes at most were to be read, these are a front of those that were to be written, its
-- direction was to be ended
abbrev pub WasAskedFor : OnceValue → Told → Type 0
WasAskedFor x (Came bytes) = (0 < length bytes) × (length bytes ≤ x.room)
WasAskedFor x Ended = 0 < x.room
WasAskedFor x (Taken bytes) = (count : ℕ) × (0 < count) × (count ≤ length x.bytes) × (bytes ≡ take count x.bytes)
WasAskedFor x DirectionEnded = x.ends ≡ true
WasAskedFor x (Reported lines) = ⊥
WasAskedFor x _ = ⊤

-- what it asks stays, and this has happened, for which it was asked
pub record HasHappenedTo (start now : OnceValue) (told : Told) : Type 0 where
  pub none : start.happened ≡ None
  pub asked : WasAskedFor start told
  pub bytes : now.bytes ≡ start.bytes
  pub room : now.room ≡ start.room
  pub ends : now.ends ≡ start.ends
  pub what : Happened
  pub is : now.happened ≡ Some what
  pub so : HappenedSo told what

-- it was told nothing, or one thing
abbrev pub IsOnce : OnceValue → OnceValue → List Told → Type 0
IsOnce start now [] = (now ≡ start) × (start.happened ≡ None)
IsOnce start now (told ∷ []) = HasHappenedTo start now told
IsOnce start now (told ∷ next ∷ more) = ⊥
