-- The clients of a listener, in one loop: what stands in each place, what is played there, and what has happened.
use Rattle.std.specs.Prelude.{◌≡◌, ◌≤◌, ◌⊎◌, ℕ, ⊤, Bool, true, false, List, [], ◌∷◌, ◌++◌, Option, None, Some, length}
use Rattle.std.specs.Prelude.{map, slice_get, slice_set}
use Rattle.std.specs.List.{concat, flat_map}
use Rattle.ws_machines.specs.Told.{Told}
use Rattle.ws_machines.specs.Told.Told.{DirectionEnded, Reported}
use Rattle.ws_machines.specs.Machines.{Wants}
use Rattle.ws_loops.specs.Deeds.{Deed, Happened, HasDone, all_done, all_shown, all_told}
use Rattle.ws_loops.specs.Deeds.Deed.{Did}
use Rattle.ws_loops.specs.Listeners.{AcceptDeed, HasHeardLast}
use Rattle.ws_loops.specs.Listeners.AcceptDeed.{CouldNotGive, HadNoClient}
use Rattle.ws_loops.specs.Looping.{LoopValue}
use Rattle.ws_loops.specs.Loops.{AreServedInTime, HasGoneOn, IsServedInTime}
use Rattle.ws_loops.specs.Paces.{has_ended_by, passes_at}
use Rattle.ws_loops.specs.Places.{AreEmpty, AreOccupied, IfOpen, IsOverAt, IsPlaceOver}
use Rattle.ws_loops.specs.Sinks.{HasTakenLines, lines_at}
use Rattle.ws_loops.specs.declared.listening.Arrival.{Arrival}
use Rattle.ws_loops.specs.declared.listening.Arrival.TheVariants as arrival
use Rattle.ws_loops.specs.declared.looping.Ending.{Ending}
use Rattle.ws_loops.specs.declared.looping.Ending.TheVariants as ending
use Rattle.ws_loops.specs.declared.places.Place.{Place}
use Rattle.ws_loops.specs.declared.places.Place.TheVariants.{Broken, Empty, Open, Pending}
use Rattle.ws_loops.specs.declared.slot.Slot.{Slot}
use Rattle.ws_loops.specs.declared.watch.Watch.{Watch}
use Rattle.ws_networks.specs.declared.bounds.Limits.{Limits}
use Rattle.ws_upgrade.specs.Protocols.{AreOffers}
use Rattle.ws_clients.specs.Talks.{IsAdmission, IsTalkOf, agrees_talk, wants_talk}
use Rattle.ws_clients.specs.declared.clients.Event.{Event}
use Rattle.ws_clients.specs.declared.clients.Event.TheVariants.{Deaf, Decided, Full, Gone, Played, TooLate}
use Rattle.ws_clients.specs.declared.clients.Held.{Held}
use Rattle.ws_clients.specs.declared.talking.Talk.{Talk}
use Rattle.ws_clients.specs.declared.talking.Talk.TheVariants.{Admits, Leaves, Plays}

-- The subprotocols that are known, and the limits of each connection; what stands in each place, and the stream that is
-- held beside it; whether it was told that no client can be taken and nothing has ended since; how many clients have
-- come, and the number of each that is there and isn't left, beside its place.
pub record ClientsValue (M S : Type 0) : Type 0 where
  pub known : List (List ℕ)
  pub limits : Limits
  pub places : List (Place (Talk M) S)
  pub held : List (Option S)
  pub deaf : Bool
  pub taken : ℕ
  pub numbers : List (Option ℕ)

-- the streams that are held
abbrev pub held_stream : {S : Type 0} → Option (Held S) → Option S
held_stream None = None
held_stream (Some h) = Some h.stream

abbrev pub held_streams : {S : Type 0} → List (Option (Held S)) → List (Option S)
held_streams held = map held_stream held

abbrev pub clients_value : {M S : Type 0} → List (List ℕ) → Limits → LoopValue (Talk M) S → List (Option (Held S))
    → ℕ → List (Option ℕ) → ClientsValue M S
clients_value known limits l held taken numbers = record {
  known = known;
  limits = limits;
  places = l.places;
  held = held_streams held;
  deaf = l.deaf;
  taken = taken;
  numbers = numbers;
}

-- this place is kept for a client that waits
abbrev pub IsAwaitedAt : {M S : Type 0} → List (Place M S) → ℕ → Type 0
IsAwaitedAt {M} {S} places at = (watch : Watch) × (slice_get places at ≡ Some (Pending watch))

-- this stream is held beside this place
abbrev pub IsHeldAt : {S : Type 0} → List (Option S) → ℕ → S → Type 0
IsHeldAt held at stream = slice_get held at ≡ Some (Some stream)

-- each stream that is held stays so
abbrev pub StayHeld : {S : Type 0} → List (Option S) → List (Option S) → Type 0
StayHeld {S} old new = (at : ℕ) (stream : S) → IsHeldAt old at stream → IsHeldAt new at stream

-- ---- what is played

-- In the place stands a slot in which just this happened since this machine was put there with this stream: what the
-- machine was told is what the stream did, in its order, and what the clock says. Or memory ran out for it.
abbrev pub PlaysThere : {M S : Type 0} → (M → M → List Told → Type 0) → (S → S → List Deed → Type 0) → M → S
    → List Happened → Place (Talk M) S → Type 0
PlaysThere agrees did start stream happened (Open slot) =
    agrees_talk agrees (Plays start) slot.machine (all_told happened)
    × HasDone did stream slot.stream (all_done happened)
PlaysThere agrees did start stream happened Broken = ⊤
PlaysThere agrees did start stream happened Empty = ⊥
PlaysThere agrees did start stream happened (Pending watch) = ⊥

-- so it is in this place
abbrev pub IsPlaying : {M S : Type 0} → (M → M → List Told → Type 0) → (S → S → List Deed → Type 0) → M → S
    → List Happened → List (Place (Talk M) S) → ℕ → Type 0
IsPlaying {M} {S} agrees did start stream happened places at = (place : Place (Talk M) S)
    × (slice_get places at ≡ Some place) × PlaysThere agrees did start stream happened place

-- the slot in this place has this time limit
abbrev pub IsLimitAt : {M S : Type 0} → Option ℕ → List (Place M S) → ℕ → Type 0
IsLimitAt {M} {S} limit places at = (slot : Slot M S) × (slice_get places at ≡ Some (Open slot))
    × (slot.pace.limit ≡ limit)

-- the slot in this place, which began now, is served for 1800 milliseconds at most
abbrev pub LingersAt : {M S : Type 0} → ℕ → List (Place M S) → ℕ → Type 0
LingersAt {M} {S} now places at = (slot : Slot M S) × (slice_get places at ≡ Some (Open slot))
    × (slot.pace.deadline ≡ passes_at (Some 1800) now)

-- its client is left
abbrev pub IsLeaver : {M : Type 0} → Talk M → Type 0
IsLeaver (Admits machine) = ⊥
IsLeaver (Plays machine) = ⊥
IsLeaver (Leaves machine) = ⊤

-- the client in this place is left, to which this stream belonged: it was ended from this side
abbrev pub IsLeftAt : {M S : Type 0} → (S → S → List Deed → Type 0) → S → List (Place (Talk M) S) → ℕ → Type 0
IsLeftAt {M} {S} did stream places at = (slot : Slot (Talk M) S) × (slice_get places at ≡ Some (Open slot))
    × IsLeaver slot.machine × HasDone did stream slot.stream (Did DirectionEnded ∷ [])

-- all that is played anywhere still is, and nothing more has happened there
abbrev pub KeepsPlays : {M S : Type 0} → (M → M → List Told → Type 0) → (S → S → List Deed → Type 0)
    → List (Place (Talk M) S) → List (Place (Talk M) S) → Type 0
KeepsPlays {M} {S} agrees did old new = (at : ℕ) (start : M) (stream : S) (happened : List Happened)
    → IsPlaying agrees did start stream happened old at → IsPlaying agrees did start stream happened new at

-- it is what is played
abbrev pub IsPlayer : {M : Type 0} → Talk M → Type 0
IsPlayer (Admits machine) = ⊥
IsPlayer (Plays machine) = ⊤
IsPlayer (Leaves machine) = ⊥

-- something is played in this place
abbrev pub PlaysAt : {M S : Type 0} → List (Place (Talk M) S) → ℕ → Type 0
PlaysAt {M} {S} places at = (slot : Slot (Talk M) S) × (slice_get places at ≡ Some (Open slot)) × IsPlayer slot.machine

-- nothing is played where nothing was
abbrev pub PlayNoMore : {M S : Type 0} → List (Place (Talk M) S) → List (Place (Talk M) S) → Type 0
PlayNoMore old new = (at : ℕ) → PlaysAt new at → PlaysAt old at

-- nothing is played in any place
abbrev pub PlayNothing : {M S : Type 0} → List (Place (Talk M) S) → Type 0
PlayNothing places = (at : ℕ) → PlaysAt places at → ⊥

-- where it tells what came of what was played, something was played in that place
abbrev pub WasPlayed : {M S E W : Type 0} → List (Place (Talk M) S) → Event E W → Type 0
WasPlayed places (Played at end) = PlaysAt places at
WasPlayed places (Decided at admission) = ⊤
WasPlayed places (Gone at number) = ⊤
WasPlayed places TooLate = ⊤
WasPlayed places (Full why) = ⊤
WasPlayed places (Deaf why) = ⊤

-- where it tells what came of what was played, that is what this is
abbrev pub IsOfPlayer : {M E W : Type 0} → Talk M → Event E W → Type 0
IsOfPlayer machine (Played at end) = IsPlayer machine
IsOfPlayer machine (Decided at admission) = ⊤
IsOfPlayer machine (Gone at number) = ⊤
IsOfPlayer machine TooLate = ⊤
IsOfPlayer machine (Full why) = ⊤
IsOfPlayer machine (Deaf why) = ⊤

-- nothing is played where nothing was, and the end is told only of what was
abbrev pub PlayedOnly : {M S E W : Type 0} → List (Place (Talk M) S) → List (Place (Talk M) S) → Option (Event E W)
    → Type 0
PlayedOnly old new None = PlayNoMore old new
PlayedOnly old new (Some event) = PlayNoMore old new × WasPlayed old event

-- ---- what goes on in each place

-- whatever stood in a place has gone on there, and no place was emptied or filled
abbrev pub AllGoOn : {M S : Type 0} → (M → M → List Told → Type 0) → (M → Wants) → (S → S → List Deed → Type 0)
    → ℕ → ℕ → List (Place (Talk M) S) → List (Place (Talk M) S) → Type 0
AllGoOn {M} {S} agrees wants did from to old new = (at : ℕ) (was : Place (Talk M) S) → slice_get old at ≡ Some was
    → (now : Place (Talk M) S) × (lines : List (List ℕ)) × (slice_get new at ≡ Some now)
    × HasGoneOn (agrees_talk agrees) (wants_talk wants) did from to was now lines

-- a request is read there, or something is played; or memory ran out for that
abbrev pub IsServedOn : {M S : Type 0} → Place (Talk M) S → Type 0
IsServedOn Empty = ⊥
IsServedOn (Open slot) = IsLeaver slot.machine → ⊥
IsServedOn (Pending watch) = ⊥
IsServedOn Broken = ⊤

-- it is told what came of what stood so in this place: that the client is gone just where memory ran out for it
abbrev pub TellsPlace : {M S E W : Type 0} → ℕ → Place (Talk M) S → Option (Event E W) → Type 0
TellsPlace at (Open slot) (Some (Decided other admission)) = other ≡ at
TellsPlace at (Open slot) (Some (Played other end)) = other ≡ at
TellsPlace at Broken (Some (Gone other number)) = other ≡ at
TellsPlace at place told = ⊥

-- Whatever is read or played has gone on in its place by now: there it stands so, or this tells what came of it. Memory
-- ran out for no client but where something was due for it.
abbrev pub ServesOn : {M S E W : Type 0} → (M → M → List Told → Type 0) → (M → Wants) → (S → S → List Deed → Type 0)
    → ℕ → ℕ → List (Place (Talk M) S) → List (Place (Talk M) S) → Option (Event E W) → Type 0
ServesOn {M} {S} agrees wants did from to old new told = (at : ℕ) (was : Place (Talk M) S)
    → slice_get old at ≡ Some was → IsServedOn was → (now : Place (Talk M) S) × (lines : List (List ℕ))
    × HasGoneOn (agrees_talk agrees) (wants_talk wants) did from to was now lines
    × (((slice_get new at ≡ Some now) × IsServedOn now) ⊎ TellsPlace at now told)

-- all other places stand as they did
abbrev pub RestBut : {M S : Type 0} → ℕ → List (Place M S) → List (Place M S) → Type 0
RestBut at old new = (other : ℕ) → (other ≡ at → ⊥) → slice_get new other ≡ slice_get old other

-- something is played to its client, or it is left
abbrev pub is_busy : {M : Type 0} → Talk M → Bool
is_busy (Admits machine) = false
is_busy (Plays machine) = true
is_busy (Leaves machine) = true

-- each of these still stands where it did
abbrev pub BusyStay : {M S : Type 0} → List (Place (Talk M) S) → List (Place (Talk M) S) → Type 0
BusyStay {M} {S} old new = (at : ℕ) (slot : Slot (Talk M) S) → slice_get old at ≡ Some (Open slot)
    → is_busy slot.machine ≡ true → slice_get new at ≡ Some (Open slot)

-- the slot in a place that is one of these, if one is
abbrev pub IsBusyOf : {M S : Type 0} → Place (Talk M) S → Option (Slot (Talk M) S) → Type 0
IsBusyOf place None = IfOpen place (λ slot. is_busy slot.machine ≡ false)
IsBusyOf place (Some slot) = (place ≡ Open slot) × (is_busy slot.machine ≡ true)

-- What went on in this slot was served until it has ended, or memory ran out for it; or two seconds have passed, and it
-- was served by now.
abbrev pub IsSeenOut : {M S : Type 0} → (M → M → List Told → Type 0) → (M → Wants) → (S → S → List Deed → Type 0)
    → ℕ → ℕ → Slot (Talk M) S → Type 0
IsSeenOut {M} {S} agrees wants did from to slot = (now : Place (Talk M) S) × (lines : List (List ℕ)) × (by : ℕ)
    × (by ≤ to) × HasGoneOn (agrees_talk agrees) (wants_talk wants) did from by (Open slot) now lines
    × (IsPlaceOver (wants_talk wants) now ⊎ ((has_ended_by (passes_at (Some 2000) from) to ≡ true)
    × IsServedInTime (agrees_talk agrees) (wants_talk wants) did to now))

-- so it is with each that was played, or by which a client is left
abbrev pub AreSeenOut : {M S : Type 0} → (M → M → List Told → Type 0) → (M → Wants) → (S → S → List Deed → Type 0)
    → ℕ → ℕ → List (Place (Talk M) S) → Type 0
AreSeenOut {M} {S} agrees wants did from to places = (at : ℕ) (slot : Slot (Talk M) S)
    → slice_get places at ≡ Some (Open slot) → is_busy slot.machine ≡ true
    → IsSeenOut agrees wants did from to slot

-- ---- what comes of what is played

-- This tells what came of what was played in this place, where just this happened there: it follows from what its
-- machine was told, and that is what its stream did; or that memory ran out for it.
abbrev pub IsPlayEnd : {M S E W : Type 0} → (S → S → List Deed → Type 0) → (M → List Told → E → Type 0) → M → S → ℕ
    → List Happened → Event E W → Type 0
IsPlayEnd {M} {S} did gives start stream at happened (Played other end) = (other ≡ at)
    × gives start (all_told happened) end × ((last : S) × HasDone did stream last (all_done happened))
IsPlayEnd did gives start stream at happened (Gone other number) = other ≡ at
IsPlayEnd did gives start stream at happened event = ⊥

-- the lines of which it was told that they were taken
abbrev pub line_told : Told → List ℕ
line_told (Reported lines) = lines
line_told told = []

abbrev pub lines_told : List Told → List ℕ
lines_told told = flat_map line_told told

-- these lines were taken, one after the other, and the machine was told so of no others
abbrev pub HasLines : List Happened → List (List ℕ) → Type 0
HasLines happened lines = (all_shown happened ≡ lines) × (lines_told (all_told happened) ≡ concat lines)

-- All that is played goes on: in each place more happens, and the lines that the sink took of it are those; or it has
-- ended so, and this event tells it.
pub record PlaysOn {M S K E W : Type 0} (heard : K → K → List (ℕ × List ℕ) → Type 0)
    (agrees : M → M → List Told → Type 0) (did : S → S → List Deed → Type 0) (gives : M → List Told → E → Type 0)
    (old new : List (Place (Talk M) S)) (old_sink new_sink : K) (told : Option (Event E W)) : Type 0 where
  pub lines : List (ℕ × List ℕ)
  pub put : HasTakenLines heard old_sink new_sink lines
  pub each : (at : ℕ) (start : M) (stream : S) (happened : List Happened)
      → IsPlaying agrees did start stream happened old at → (more : List Happened)
      × HasLines more (lines_at at lines)
      × (IsPlaying agrees did start stream (happened ++ more) new at
      ⊎ ((event : Event E W) × (told ≡ Some event) × IsPlayEnd did gives start stream at (happened ++ more) event))

-- so far, where nothing is told of them
abbrev pub HasGoneOnTo : {M S K : Type 0} → (K → K → List (ℕ × List ℕ) → Type 0) → (M → M → List Told → Type 0)
    → (S → S → List Deed → Type 0) → List (Place (Talk M) S) → List (Place (Talk M) S) → K → K → Type 0
HasGoneOnTo {M} {S} {K} heard agrees did old new old_sink new_sink = (lines : List (ℕ × List ℕ))
    × HasTakenLines heard old_sink new_sink lines
    × ((at : ℕ) (start : M) (stream : S) (happened : List Happened) → IsPlaying agrees did start stream happened old at
    → (more : List Happened) × HasLines more (lines_at at lines)
    × IsPlaying agrees did start stream (happened ++ more) new at)

-- so at once, where something has ended, or nothing that was played
abbrev pub EndsAtOnce : {M S E W : Type 0} → (M → M → List Told → Type 0) → (S → S → List Deed → Type 0)
    → (M → List Told → E → Type 0) → List (Place (Talk M) S) → List (Place (Talk M) S) → Option (Event E W) → Type 0
EndsAtOnce {M} {S} {E} {W} agrees did gives old new told = (at : ℕ) (start : M) (stream : S) (happened : List Happened)
    → IsPlaying agrees did start stream happened old at → IsPlaying agrees did start stream happened new at
    ⊎ ((event : Event E W) × (told ≡ Some event) × IsPlayEnd did gives start stream at happened event)

-- what came of the slot that stood in this place: where this was played there, and just this happened, it is told
abbrev pub EndsSlot : {M S E W : Type 0} → (M → M → List Told → Type 0) → (S → S → List Deed → Type 0)
    → (M → List Told → E → Type 0) → ℕ → Slot (Talk M) S → Option (Event E W) → Type 0
EndsSlot {M} {S} {E} {W} agrees did gives at slot told = (start : M) (stream : S) (happened : List Happened)
    → PlaysThere agrees did start stream happened (Open slot)
    → (event : Event E W) × (told ≡ Some event) × IsPlayEnd did gives start stream at happened event

-- ---- what has happened

-- the last that this listener did was that it could give no client, for this reason
abbrev pub IsDeaf : {L W : Type 0} → (L → L → List (AcceptDeed W) → Type 0) → L → W → Type 0
IsDeaf {L} did now why = (before : L) × HasHeardLast did before now (CouldNotGive why ∷ [])

-- it was asked last in vain, or not asked: no place is empty, or it was told that no client can be taken
abbrev pub WasInVain : {X S L W : Type 0} → (L → L → List (AcceptDeed W) → Type 0) → L → List (Place X S) → Bool
    → Type 0
WasInVain {X} {S} {L} did now places deaf = ((before : L) × HasHeardLast did before now (HadNoClient ∷ []))
    ⊎ (AreOccupied places (length places) ⊎ (deaf ≡ true))

abbrev pub IsAskedInVain : {M S L W : Type 0} → (L → L → List (AcceptDeed W) → Type 0) → L → ClientsValue M S → Type 0
IsAskedInVain did now x = WasInVain did now x.places x.deaf

-- What holds by now where this has happened: a request was decided so, where these subprotocols are known; the time has
-- come; the listener has said that it can give no client.
abbrev pub HasBecome : {M S L E W : Type 0} → (S → S → List Deed → Type 0) → (L → L → List (AcceptDeed W) → Type 0) → ℕ
    → Option ℕ → L → ClientsValue M S → Event E W → Type 0
HasBecome did heard now until listener x (Decided at admission) = IsAdmission did x.known admission
HasBecome did heard now until listener x (Played at end) = ⊤
HasBecome did heard now until listener x (Gone at number) = ⊤
HasBecome did heard now until listener x TooLate = (has_ended_by until now ≡ true) × IsAskedInVain heard listener x
HasBecome did heard now until listener x (Full why) = IsDeaf heard listener why
HasBecome did heard now until listener x (Deaf why) = IsDeaf heard listener why

-- the client of which it tells waits in its place, or its place is empty
abbrev pub StandsWhere : {M S E W : Type 0} → List (Place (Talk M) S) → Event E W → Type 0
StandsWhere places (Decided at admission) = IsAwaitedAt places at
StandsWhere places (Played at end) = IsAwaitedAt places at
StandsWhere places (Gone at number) = slice_get places at ≡ Some Empty
StandsWhere places TooLate = ⊤
StandsWhere places (Full why) = ⊤
StandsWhere places (Deaf why) = ⊤

-- the stream of the client of which it tells is held beside its place: that from which its request was read, where that
-- was decided
abbrev pub HoldsBehind : {S E W : Type 0} → (S → S → List Deed → Type 0) → List (List ℕ) → List (Option S) → Event E W
    → Type 0
HoldsBehind did known held (Decided at admission) = (is : IsAdmission did known admission) × IsHeldAt held at is.last
HoldsBehind {S} did known held (Played at end) = (stream : S) × IsHeldAt held at stream
HoldsBehind did known held (Gone at number) = ⊤
HoldsBehind did known held TooLate = ⊤
HoldsBehind did known held (Full why) = ⊤
HoldsBehind did known held (Deaf why) = ⊤

-- This came of what was played: some machine gives it, by all that it was told, and that is what a stream did.
pub record IsPlayedOut {M S E : Type 0} (did : S → S → List Deed → Type 0) (gives : M → List Told → E → Type 0)
    (end : E) : Type 0 where
  pub start : M
  pub happened : List Happened
  pub gave : gives start (all_told happened) end
  pub first : S
  pub last : S
  pub done : HasDone did first last (all_done happened)

-- where it tells what came of what was played, that is so, and the stream is the one that is held beside the place
abbrev pub TellsPlayed : {M S E W : Type 0} → (S → S → List Deed → Type 0) → (M → List Told → E → Type 0)
    → List (Option S) → Event E W → Type 0
TellsPlayed did gives held (Played at end) = (is : IsPlayedOut did gives end) × IsHeldAt held at is.last
TellsPlayed did gives held (Decided at admission) = ⊤
TellsPlayed did gives held (Gone at number) = ⊤
TellsPlayed did gives held TooLate = ⊤
TellsPlayed did gives held (Full why) = ⊤
TellsPlayed did gives held (Deaf why) = ⊤

-- nothing was held before beside the place of which it tells
abbrev pub IsNewlyHeld : {S E W : Type 0} → List (Option S) → Event E W → Type 0
IsNewlyHeld {S} held (Decided at admission) = (stream : S) → IsHeldAt held at stream → ⊥
IsNewlyHeld {S} held (Played at end) = (stream : S) → IsHeldAt held at stream → ⊥
IsNewlyHeld {S} held (Gone at number) = (stream : S) → IsHeldAt held at stream → ⊥
IsNewlyHeld held TooLate = ⊤
IsNewlyHeld held (Full why) = ⊤
IsNewlyHeld held (Deaf why) = ⊤

-- it is told of this place
abbrev pub IsOfPlace : {S E W : Type 0} → (S → S → List Deed → Type 0) → ℕ → List (List ℕ) → Event E W → Type 0
IsOfPlace did at known (Decided other admission) = (other ≡ at) × IsAdmission did known admission
IsOfPlace did at known (Played other end) = other ≡ at
IsOfPlace did at known (Gone other number) = other ≡ at
IsOfPlace did at known TooLate = ⊥
IsOfPlace did at known (Full why) = ⊥
IsOfPlace did at known (Deaf why) = ⊥

-- What holds by now where this has arrived: what went on in this place has ended; the place is empty, and the stream
-- has done nothing; the listener has said that it can give no client; the time has come, and it was asked in vain.
abbrev pub HasCome : {M S L W : Type 0} → (Talk M → Wants) → (S → S → List Deed → Type 0)
    → (L → L → List (AcceptDeed W) → Type 0) → ℕ → Option ℕ → L → LoopValue (Talk M) S → Arrival S W → Type 0
HasCome wants did heard now until listener l (arrival.Ended at) = IsOverAt wants l.places at
HasCome wants did heard now until listener l (arrival.Client at stream) = (slice_get l.places at ≡ Some Empty)
    × did stream stream []
HasCome wants did heard now until listener l (arrival.Lost why) = ⊤
HasCome wants did heard now until listener l (arrival.NotAccepted why) = IsDeaf heard listener why
HasCome wants did heard now until listener l arrival.TooLate = (has_ended_by until now ≡ true)
    × WasInVain heard listener l.places l.deaf

-- what went on in the place that is told has ended; the time has come, and all were served by then; or nobody is there
abbrev pub IsOverAs : {M S : Type 0} → (M → M → List Told → Type 0) → (M → Wants) → (S → S → List Deed → Type 0)
    → Option ℕ → ℕ → List (Place (Talk M) S) → Ending → Type 0
IsOverAs agrees wants did until now places (ending.Ended at) = IsOverAt (wants_talk wants) places at
IsOverAs agrees wants did until now places ending.TooLate = (has_ended_by until now ≡ true)
    × AreServedInTime (agrees_talk agrees) (wants_talk wants) did now places
IsOverAs agrees wants did until now places ending.NoSlot = AreEmpty places

-- ---- what is kept

-- Each place beside which a stream is held is kept for its client; and in each slot a request is read by these
-- subprotocols over a stream that had done nothing, if the loop was not stopped by a fault.
pub record AreClientsSound {M S : Type 0} (agrees : M → M → List Told → Type 0) (did : S → S → List Deed → Type 0)
    (known : List (List ℕ)) (l : LoopValue (Talk M) S) (held : List (Option (Held S))) (broken : Bool) : Type 0 where
  pub offers : AreOffers known
  pub len : length held ≡ length l.places
  pub waits : (i : ℕ) (h : Held S) → slice_get held i ≡ Some (Some h) → IsAwaitedAt l.places i
  pub talks : broken ≡ false → (i : ℕ) (slot : Slot (Talk M) S) → slice_get l.places i ≡ Some (Open slot)
      → IsTalkOf agrees did known slot

-- so many places beside which nothing is held
pub record AreNoneHeld {S : Type 0} (len : ℕ) (held : List (Option (Held S))) : Type 0 where
  pub places : length held ≡ len
  pub none : (i : ℕ) (h : Option (Held S)) → slice_get held i ≡ Some h → h ≡ None

-- what was held beside this place, if there is one and anything was, is taken out
abbrev pub IsTakenOut : {S : Type 0} → ℕ → List (Option (Held S)) → List (Option (Held S)) → Option (Held S) → Type 0
IsTakenOut at old new None = new ≡ old
IsTakenOut at old new (Some h) = (slice_get old at ≡ Some (Some h)) × (new ≡ slice_set old at None)

-- where nothing was taken out nothing was held
abbrev pub WasNoneHeld : {S : Type 0} → ℕ → List (Option (Held S)) → Option (Held S) → Type 0
WasNoneHeld {S} at old None = (h : Held S) → slice_get old at ≡ Some (Some h) → ⊥
WasNoneHeld at old (Some h) = ⊤
