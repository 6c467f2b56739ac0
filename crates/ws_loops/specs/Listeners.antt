-- A listener of a loop: what comes of it while the slots go on.
use Rattle.std.specs.Prelude.{◌≡◌, ℕ, ◌⊎◌, ⊤, true, false, Bool, List, [], ◌∷◌, ◌++◌, length, replicate, Option}
use Rattle.std.specs.Prelude.{None, Some, slice_get}
use Rattle.ws_machines.specs.Machines.{Wants}
use Rattle.ws_loops.specs.Deeds.{Deed}
use Rattle.ws_loops.specs.Looping.{LoopValue}
use Rattle.ws_loops.specs.Loops.{IsTicketed}
use Rattle.ws_loops.specs.Paces.{has_ended_by}
use Rattle.ws_loops.specs.Places.{AreOccupied, IsOverAt, IsFirstFree, IsFirstToEnd, NoneIsOver}
use Rattle.ws_loops.specs.declared.listener.TryAccept.{TryAccept}
use Rattle.ws_loops.specs.declared.listener.TryAccept.TheVariants as accept
use Rattle.ws_loops.specs.declared.listening.Arrival.{Arrival}
use Rattle.ws_loops.specs.declared.listening.Arrival.TheVariants as arrival
use Rattle.ws_loops.specs.declared.places.Place.TheVariants.{Empty}

-- One thing that a listener did when it was asked: it gave a client, for this place, it had one that was lost, for this
-- reason, it could give none, for this reason, or it had none.
pub data AcceptDeed (W : Type 0) : Type 0 where
  GaveClient : ℕ → AcceptDeed W
  LostClient : W → AcceptDeed W
  CouldNotGive : W → AcceptDeed W
  HadNoClient : AcceptDeed W

-- what came of an accept for this place, as what the listener did
abbrev pub accept_deed : {S W : Type 0} → ℕ → TryAccept S W → AcceptDeed W
accept_deed at (accept.Client stream) = GaveClient at
accept_deed at (accept.Lost why) = LostClient why
accept_deed at (accept.Failed why) = CouldNotGive why
accept_deed at accept.NotReady = HadNoClient

-- the stream of a client that was accepted has this property
abbrev pub IfAccepted : {S W : Type 0} → TryAccept S W → (S → Type 0) → Type 0
IfAccepted (accept.Client stream) P = P stream
IfAccepted (accept.Lost why) P = ⊤
IfAccepted (accept.Failed why) P = ⊤
IfAccepted accept.NotReady P = ⊤

-- each list of what the listener did until the first state, followed by this, is one of what it did until the second
abbrev pub HasHeard : {L W : Type 0} → (L → L → List (AcceptDeed W) → Type 0) → L → L → List (AcceptDeed W) → Type 0
HasHeard {L} {W} did old new more = (start : L) (deeds : List (AcceptDeed W)) → did start old deeds
    → did start new (deeds ++ more)

-- it was asked some times and had no client, and then did this
abbrev pub HasHeardLast : {L W : Type 0} → (L → L → List (AcceptDeed W) → Type 0) → L → L → List (AcceptDeed W)
    → Type 0
HasHeardLast did old new last = (n : ℕ) × HasHeard did old new (replicate n HadNoClient ++ last)

-- what the listener did last where this has happened
abbrev pub last_heard : {S W : Type 0} → Arrival S W → List (AcceptDeed W)
last_heard (arrival.Ended at) = []
last_heard (arrival.Client at stream) = GaveClient at ∷ []
last_heard (arrival.Lost why) = LostClient why ∷ []
last_heard (arrival.NotAccepted why) = CouldNotGive why ∷ []
last_heard arrival.TooLate = []

-- no client could be taken: no place is empty, or it was told that none can be
abbrev pub CannotTake : {M S : Type 0} → LoopValue M S → Type 0
CannotTake l = AreOccupied l.places (length l.places) ⊎ (l.deaf ≡ true)

-- So it was asked where this has happened: no client came in time only where none could be taken, or it was asked once
-- more and had none.
abbrev pub HasHeardFor : {M S T L W : Type 0} → (L → L → List (AcceptDeed W) → Type 0) → L → L → LoopValue M S
    → Arrival T W → Type 0
HasHeardFor did old new l arrival.TooLate = HasHeardLast did old new []
    × (CannotTake l ⊎ HasHeardLast did old new (HadNoClient ∷ []))
HasHeardFor did old new l happened = HasHeardLast did old new (last_heard happened)

-- What holds by now where this has happened: what went on in this place has ended, and first of all; the client is for
-- the place that is free first, and its stream has done nothing; the time has come until which was waited, and nothing
-- has ended.
abbrev pub HasArrived : {M S : Type 0} → {W : Type 0} → (M → Wants) → (S → S → List Deed → Type 0) → Option ℕ → ℕ
    → LoopValue M S → Arrival S W → Type 0
HasArrived wants did until now l (arrival.Ended at) = IsOverAt wants l.places at × IsFirstToEnd l.tickets at
HasArrived wants did until now l (arrival.Client at stream) = IsFirstFree l.places at
    × (slice_get l.places at ≡ Some Empty) × did stream stream []
HasArrived wants did until now l (arrival.Lost why) = ⊤
HasArrived wants did until now l (arrival.NotAccepted why) = ⊤
HasArrived wants did until now l arrival.TooLate = (has_ended_by until now ≡ true) × NoneIsOver wants l.places

-- This holds where a round was made before what went on in a place has ended, which had no number before, and before
-- the time has come.
abbrev pub IfRoundMadeFor : {S W : Type 0} → List (Option ℕ) → Arrival S W → Type 0 → Type 0
IfRoundMadeFor tickets (arrival.Ended at) P = IsTicketed tickets at ⊎ P
IfRoundMadeFor tickets (arrival.Client at stream) P = ⊤
IfRoundMadeFor tickets (arrival.Lost why) P = ⊤
IfRoundMadeFor tickets (arrival.NotAccepted why) P = ⊤
IfRoundMadeFor tickets arrival.TooLate P = P

-- where a client was lost, this holds
abbrev pub IfLost : {S W : Type 0} → Arrival S W → Type 0 → Type 0
IfLost (arrival.Lost why) P = P
IfLost _ P = ⊤

-- that no client can be taken is told only where it wasn't before, and then it was
abbrev pub IsDeafBehind : {S W : Type 0} → Bool → Arrival S W → Bool → Type 0
IsDeafBehind before (arrival.NotAccepted why) after = (before ≡ false) × (after ≡ true)
IsDeafBehind before (arrival.Client at stream) after = (before ≡ false) × (after ≡ false)
IsDeafBehind before (arrival.Lost why) after = (before ≡ false) × (after ≡ false)
IsDeafBehind before _ after = after ≡ before

-- ---- parts of it

abbrev pub HasHeardSo : {M S T L W : Type 0} → (L → L → List (AcceptDeed W) → Type 0) → L → L → LoopValue M S
    → Option (Arrival T W) → Type 0
HasHeardSo did old new l None = HasHeardLast did old new []
HasHeardSo did old new l (Some happened) = HasHeardFor did old new l happened

abbrev pub HasDeafened : {S W : Type 0} → Bool → Option (Arrival S W) → Bool → Type 0
HasDeafened before None after = after ≡ before
HasDeafened before (Some happened) after = IsDeafBehind before happened after

-- where it was asked once, for this place
abbrev pub HasAskedClient : {S L W : Type 0} → (S → S → List Deed → Type 0)
    → (L → L → List (AcceptDeed W) → Type 0) → ℕ → L → L → Bool → Option (Arrival S W) → Bool → Type 0
HasAskedClient does did at old new before None after = HasHeard did old new (HadNoClient ∷ []) × (after ≡ before)
HasAskedClient does did at old new before (Some (arrival.Client place stream)) after =
    HasHeard did old new (GaveClient at ∷ []) × (place ≡ at) × does stream stream [] × (after ≡ before)
HasAskedClient does did at old new before (Some (arrival.Lost why)) after = HasHeard did old new (LostClient why ∷ [])
    × (after ≡ before)
HasAskedClient does did at old new before (Some (arrival.NotAccepted why)) after =
    HasHeard did old new (CouldNotGive why ∷ []) × (after ≡ true)
HasAskedClient does did at old new before (Some _) after = ⊥

-- it is the first place that is free, and clients can be taken
abbrev pub IsPlaceToAsk : {M S : Type 0} → LoopValue M S → ℕ → Type 0
IsPlaceToAsk l at = IsFirstFree l.places at × (slice_get l.places at ≡ Some Empty) × (l.deaf ≡ false)

-- What comes of it where clients are asked for, if they are to be: a client, or why there is none; or nothing, and
-- where there is no more time none can be taken, or the listener was asked and had none.
abbrev pub HasClientBy : {M S L W : Type 0} → (M → Wants) → (S → S → List Deed → Type 0)
    → (L → L → List (AcceptDeed W) → Type 0) → Bool → L → L → LoopValue M S → Bool → Option (Arrival S W) → Bool
    → Type 0
HasClientBy wants does did over old new l before None after = HasHeardLast did old new [] × (after ≡ before)
    × (over ≡ true → CannotTake l ⊎ HasHeardLast did old new (HadNoClient ∷ []))
HasClientBy wants does did over old new l before (Some happened) after = HasHeardFor did old new l happened
    × IsDeafBehind before happened after
    × ((until : Option ℕ) (now : ℕ) → HasArrived wants does until now l happened)
