-- A loop over a network: how its places stand, and what comes of the connections that are under way for them.
use Rattle.std.specs.Prelude.{◌≡◌, ℕ, ◌<◌, ◌≤◌, ⊤, Bool, true, false, List, [], ◌∷◌, ◌++◌, length, Option, None, Some}
use Rattle.std.specs.Prelude.{slice_get, slice_set}
use Rattle.ws_machines.specs.Told.{Told}
use Rattle.ws_machines.specs.Machines.{Wants}
use Rattle.ws_loops.specs.Deeds.{Deed}
use Rattle.ws_loops.specs.Looping.{LoopValue}
use Rattle.ws_loops.specs.Loops.{HasGoneOn, IsServedInTime}
use Rattle.ws_loops.specs.Paces.{begun_pace, has_ended_by}
use Rattle.ws_loops.specs.Places.{IsFirstToEnd, Kind, is_stirred, place_kind}
use Rattle.ws_loops.specs.Places.Kind.{UnderWay}
use Rattle.ws_loops.specs.Sinks.{AreLinesOfPlaces, HasTakenLines, lines_at}
use Rattle.ws_loops.specs.Slots.{IsAble}
use Rattle.ws_loops.specs.declared.looping.Ending.{Ending}
use Rattle.ws_loops.specs.declared.looping.Ending.TheVariants as ending
use Rattle.ws_loops.specs.declared.places.Place.{Place}
use Rattle.ws_loops.specs.declared.places.Place.TheVariants.{Broken, Empty, Open, Pending}
use Rattle.ws_loops.specs.declared.slot.Slot.{Slot}
use Rattle.ws_networks.specs.Bounds.{gives_up_at, is_given_up}
use Rattle.ws_networks.specs.Connecting.{AllMissed, HasDialled, IfDialled, IsDialling, OneMade}
use Rattle.ws_networks.specs.Networks.{HasAdded, NetworkDeed, deeds_at, is_deed_of}
use Rattle.ws_networks.specs.declared.bounds.Bounds.{Bounds}
use Rattle.ws_networks.specs.declared.dialing.Dial.{Dial}
use Rattle.ws_networks.specs.declared.dialing.Dialled.{Dialled}
use Rattle.ws_networks.specs.declared.dialing.Dialled.TheVariants as dialled
use Rattle.ws_networks.specs.declared.dialing.Missed.{Missed}
use Rattle.ws_networks.specs.declared.network_loop.Outbound.{Outbound}
use Rattle.ws_networks.specs.declared.network_loop.Outbound.TheVariants as outbound
use Rattle.ws_networks.specs.declared.network_loop.Taken.{Taken}
use Rattle.ws_networks.specs.declared.network_loop.Taken.TheVariants as taken

-- ---- how a place stands

-- Nothing stands in it. A slot does. Memory ran out for the slot that did. A connection is under way for it, over which
-- this machine is to be run. No connection was made for it, for this reason.
pub data Standing (M S A W : Type 0) : Type 0 where
  Free : Standing M S A W
  Served : Slot M S → Standing M S A W
  Broke : Standing M S A W
  Trying : M → Dial A S W → Standing M S A W
  Lost : Missed W → Standing M S A W

-- by what stands in it, and what goes on beside that
abbrev pub standing_of : {M S A W : Type 0} → Place M S → Outbound M A S W → Standing M S A W
standing_of Empty beside = Free
standing_of (Open slot) beside = Served slot
standing_of Broken beside = Broke
standing_of (Pending watch) outbound.Idle = Free
standing_of (Pending watch) (outbound.Trying machine dial) = Trying machine dial
standing_of (Pending watch) (outbound.Missed why) = Lost why

-- the number that it was given as it ended: a connection that is under way has not ended
abbrev pub own_ticket : {M S A W : Type 0} → Option ℕ → Outbound M A S W → Option ℕ
own_ticket ticket outbound.Idle = ticket
own_ticket ticket (outbound.Trying machine dial) = None
own_ticket ticket (outbound.Missed why) = ticket

abbrev pub zip_by : {X Y Z : Type 0} → (X → Y → Z) → List X → List Y → List Z
zip_by f [] ys = []
zip_by f (x ∷ xs) [] = []
zip_by f (x ∷ xs) (y ∷ ys) = f x y ∷ zip_by f xs ys

-- How its places stand; the number that each was given as it ended, until it is taken; and whether it was told that no
-- client can be taken, and nothing has ended since.
pub record NetworkValue (M A S W : Type 0) : Type 0 where
  pub standings : List (Standing M S A W)
  pub tickets : List (Option ℕ)
  pub deaf : Bool

abbrev pub network_value : {M A S W : Type 0} → LoopValue M S → List (Outbound M A S W) → NetworkValue M A S W
network_value l beside = record {
  standings = zip_by standing_of l.places beside;
  tickets = zip_by own_ticket l.tickets beside;
  deaf = l.deaf;
}

-- nothing stands in any
abbrev pub AreFree : {M S A W : Type 0} → List (Standing M S A W) → Type 0
AreFree {M} {S} {A} {W} standings = (i : ℕ) (x : Standing M S A W) → slice_get standings i ≡ Some x → x ≡ Free

-- nothing stands in this one, and something in each in front of it; or something in each
abbrev pub IsFirstOfFree : {M S A W : Type 0} → List (Standing M S A W) → ℕ → Type 0
IsFirstOfFree standings at = (slice_get standings at ≡ Some Free)
    × ((i : ℕ) → i < at → slice_get standings i ≡ Some Free → ⊥)

abbrev pub NoneIsFree : {M S A W : Type 0} → List (Standing M S A W) → Type 0
NoneIsFree standings = (i : ℕ) → slice_get standings i ≡ Some Free → ⊥

-- what went on in it has ended: its machine is done, memory ran out for it, or no connection was made
abbrev pub IsOverThere : {M S A W : Type 0} → (M → Wants) → Standing M S A W → Type 0
IsOverThere wants Free = ⊥
IsOverThere wants (Served slot) = (wants slot.machine).done ≡ true
IsOverThere wants Broke = ⊤
IsOverThere wants (Trying machine dial) = ⊥
IsOverThere wants (Lost why) = ⊤

abbrev pub IsStandingOver : {M S A W : Type 0} → (M → Wants) → List (Standing M S A W) → ℕ → Type 0
IsStandingOver {M} {S} {A} {W} wants standings at = (x : Standing M S A W) × (slice_get standings at ≡ Some x)
    × IsOverThere wants x

-- nothing has ended in any
abbrev pub NoneIsOverThere : {M S A W : Type 0} → (M → Wants) → List (Standing M S A W) → Type 0
NoneIsOverThere wants standings = (i : ℕ) → IsStandingOver wants standings i → ⊥

-- What holds by now where this has happened: what went on in this place has ended, and first of all; the time has come
-- until which was waited, and nothing has ended; nothing stands in any place.
abbrev pub IsNetworkEnding : {M A S W : Type 0} → (M → Wants) → Option ℕ → ℕ → NetworkValue M A S W → Ending → Type 0
IsNetworkEnding wants until now l (ending.Ended at) = IsStandingOver wants l.standings at × IsFirstToEnd l.tickets at
IsNetworkEnding wants until now l ending.TooLate = (has_ended_by until now ≡ true) × NoneIsOverThere wants l.standings
IsNetworkEnding wants until now l ending.NoSlot = AreFree l.standings

-- It was served by now: a slot was, and a connection that is under way isn't to be given up yet.
abbrev pub IsStandingServed : {M S A W : Type 0} → (M → M → List Told → Type 0) → (M → Wants)
    → (S → S → List Deed → Type 0) → ℕ → Standing M S A W → Type 0
IsStandingServed agrees wants did now Free = ⊤
IsStandingServed agrees wants did now (Served slot) = IsServedInTime agrees wants did now (Open slot)
IsStandingServed agrees wants did now Broke = ⊤
IsStandingServed agrees wants did now (Trying machine dial) = is_given_up dial.tries.bounds dial.since now ≡ false
IsStandingServed agrees wants did now (Lost why) = ⊤

abbrev pub AreStandingsServed : {M S A W : Type 0} → (M → M → List Told → Type 0) → (M → Wants)
    → (S → S → List Deed → Type 0) → ℕ → List (Standing M S A W) → Type 0
AreStandingsServed {M} {S} {A} {W} agrees wants did now standings = (i : ℕ) (x : Standing M S A W)
    → slice_get standings i ≡ Some x → IsStandingServed agrees wants did now x

-- where the time has come, this holds
abbrev pub IfTooLate : Ending → Type 0 → Type 0
IfTooLate (ending.Ended at) P = ⊤
IfTooLate ending.TooLate P = P
IfTooLate ending.NoSlot P = ⊤

-- what is handed out of a place that stands so
abbrev pub IsHandedOutAs : {M S A W : Type 0} → (M → M → List Told → Type 0) → (M → Wants) → Standing M S A W
    → Taken M S W → Type 0
IsHandedOutAs agrees wants Free came = came ≡ taken.Nothing
IsHandedOutAs agrees wants (Served slot) came = (came ≡ taken.Slot slot) × IsAble agrees wants slot.machine
IsHandedOutAs agrees wants Broke came = came ≡ taken.Broken
IsHandedOutAs agrees wants (Trying machine dial) came = came ≡ taken.UnderWay
IsHandedOutAs agrees wants (Lost why) came = came ≡ taken.Missed why

abbrev pub IsHandedOut : {M S A W : Type 0} → (M → M → List Told → Type 0) → (M → Wants) → List (Standing M S A W) → ℕ
    → Taken M S W → Type 0
IsHandedOut {M} {S} {A} {W} agrees wants standings at came = (x : Standing M S A W) × (slice_get standings at ≡ Some x)
    × IsHandedOutAs agrees wants x came

-- ---- a connection is begun

-- the slot of a connection that is made by now
abbrev pub begun_slot : {M S : Type 0} → M → S → Bounds → ℕ → Slot M S
begun_slot machine stream bounds now = record {
  machine = machine;
  stream = stream;
  pace = begun_pace now bounds.limit bounds.until;
}

-- how a place stands where this has come of a connection for it
abbrev pub standing_by : {M S A W : Type 0} → M → Bounds → ℕ → Dialled A S W → Standing M S A W
standing_by machine bounds now (dialled.Made stream) = Served (begun_slot machine stream bounds now)
standing_by machine bounds now (dialled.Waits dial) = Trying machine dial
standing_by machine bounds now (dialled.Missed why) = Lost why

-- by what stands in it then, and what goes on beside that
abbrev pub place_by : {M S A W : Type 0} → M → Bounds → ℕ → Dialled A S W → Place M S
place_by machine bounds now (dialled.Made stream) = Open (begun_slot machine stream bounds now)
place_by machine bounds now (dialled.Waits dial) = Pending (record {
  until = gives_up_at dial.tries.bounds dial.since;
  stirred = false;
})
place_by machine bounds now (dialled.Missed why) = Pending (record { until = None; stirred = true })

abbrev pub outbound_by : {M S A W : Type 0} → M → Dialled A S W → Outbound M A S W
outbound_by machine (dialled.Made stream) = outbound.Idle
outbound_by machine (dialled.Waits dial) = outbound.Trying machine dial
outbound_by machine (dialled.Missed why) = outbound.Missed why

-- A connection was begun for this place: what the network did for it has brought it so far, and so the place stands.
pub record HasBegunFor {M S A W N : Type 0} (did : S → S → List Deed → Type 0)
    (does : N → N → List (NetworkDeed A W) → Type 0) (at : ℕ) (addresses : List A) (bounds : Bounds) (machine : M)
    (now : ℕ) (old new : List (Standing M S A W)) (old_network new_network : N) : Type 0 where
  pub came : Dialled A S W
  pub dialled : HasDialled does at now (λ from before. (from ≤ now) × (before ≡ [])) bounds addresses came old_network
      new_network
  pub fresh : IfDialled came (λ stream. did stream stream [])
  pub stands : new ≡ slice_set old at (standing_by machine bounds now came)

-- ---- a run

-- It is under way still: whatever brought it to the first state, that and these things have brought it to the second.
pub record StaysUnderWay {A S W : Type 0} (at from to : ℕ) (old new : Dial A S W) (deeds : List (NetworkDeed A W))
    : Type 0 where
  pub addresses : new.tries.addresses.items ≡ old.tries.addresses.items
  pub bounds : new.tries.bounds ≡ old.tries.bounds
  pub goes_on : (start : ℕ) (before : List (NetworkDeed A W)) → IsDialling at start from old before
      → IsDialling at start to new (before ++ deeds)

-- one of its addresses has taken it by this time, and none in front of that
abbrev pub WasMadeBy : {A S W : Type 0} → ℕ → ℕ → ℕ → Dial A S W → List (NetworkDeed A W) → Type 0
WasMadeBy {A} {S} {W} at from made dial deeds = (start : ℕ) (before : List (NetworkDeed A W))
    → IsDialling at start from dial before
    → OneMade at dial.tries.bounds start made dial.tries.addresses.items (before ++ deeds)

-- no address has taken it, for this reason
abbrev pub WasMissedBy : {A S W : Type 0} → ℕ → ℕ → ℕ → Dial A S W → Missed W → List (NetworkDeed A W) → Type 0
WasMissedBy {A} {S} {W} at from to dial why deeds = (start : ℕ) (before : List (NetworkDeed A W))
    → IsDialling at start from dial before
    → AllMissed at dial.tries.bounds start to dial.tries.addresses.items why (before ++ deeds)

-- It was made, and the machine was run over it since then, so that its place stands as it does: its stream had done
-- nothing, and its limits began with that time. Its deadline is the one that it had while it was under way.
pub record IsMadeFor {M S A W : Type 0} (agrees : M → M → List Told → Type 0) (wants : M → Wants)
    (did : S → S → List Deed → Type 0) (at from to : ℕ) (machine : M) (dial : Dial A S W) (place : Place M S)
    (lines : List (List ℕ)) (deeds : List (NetworkDeed A W)) : Type 0 where
  pub made : ℕ
  pub later : from ≤ made
  pub stream : S
  pub fresh : did stream stream []
  pub was_made : WasMadeBy at from made dial deeds
  pub ran : HasGoneOn agrees wants did made to (Open (begun_slot machine stream dial.tries.bounds made)) place
      lines

-- A place has come on since the first time, until the second: these are its lines, and this is what the network did for
-- it. A slot has gone on, or it has so far, and memory ran out for it. A connection that was under way is so still, was
-- made, and its slot has gone on so, or was missed.
abbrev pub HasComeOn : {M S A W : Type 0} → (M → M → List Told → Type 0) → (M → Wants) → (S → S → List Deed → Type 0)
    → ℕ → ℕ → ℕ → Standing M S A W → Standing M S A W → List (List ℕ) → List (NetworkDeed A W) → Type 0
HasComeOn agrees wants did from to at Free Free lines deeds = (lines ≡ []) × (deeds ≡ [])
HasComeOn agrees wants did from to at Broke Broke lines deeds = (lines ≡ []) × (deeds ≡ [])
HasComeOn agrees wants did from to at (Lost why) (Lost other) lines deeds = (other ≡ why) × (lines ≡ []) × (deeds ≡ [])
HasComeOn agrees wants did from to at (Served old) (Served new) lines deeds =
    HasGoneOn agrees wants did from to (Open old) (Open new) lines × (deeds ≡ [])
HasComeOn agrees wants did from to at (Served old) Broke lines deeds =
    HasGoneOn agrees wants did from to (Open old) Broken lines × (deeds ≡ [])
HasComeOn agrees wants did from to at (Trying machine old) (Trying other new) lines deeds = (other ≡ machine)
    × (lines ≡ []) × StaysUnderWay at from to old new deeds
HasComeOn agrees wants did from to at (Trying machine old) (Served new) lines deeds =
    IsMadeFor agrees wants did at from to machine old (Open new) lines deeds
HasComeOn agrees wants did from to at (Trying machine old) Broke lines deeds =
    IsMadeFor agrees wants did at from to machine old Broken lines deeds
HasComeOn agrees wants did from to at (Trying machine old) (Lost why) lines deeds = (lines ≡ [])
    × WasMissedBy at from to old why deeds
HasComeOn agrees wants did from to at _ _ lines deeds = ⊥

-- each thing was done for one of so many places
abbrev pub AreOfPlaces : {A W : Type 0} → ℕ → List (NetworkDeed A W) → Type 0
AreOfPlaces count [] = ⊤
AreOfPlaces count (x ∷ deeds) = ((at : ℕ) × (at < count) × (is_deed_of at x ≡ true)) × AreOfPlaces count deeds

-- No place is added or lost, and each has come on, by its lines of those that the sink took, and by what the network
-- did for it. Nothing was taken or done but of these places.
pub record HaveComeOn {M S A W K N : Type 0} (agrees : M → M → List Told → Type 0) (wants : M → Wants)
    (did : S → S → List Deed → Type 0) (heard : K → K → List (ℕ × List ℕ) → Type 0)
    (does : N → N → List (NetworkDeed A W) → Type 0) (from to : ℕ) (old new : List (Standing M S A W))
    (old_sink new_sink : K) (old_network new_network : N) : Type 0 where
  pub later : from ≤ to
  pub len : length new ≡ length old
  pub lines : List (ℕ × List ℕ)
  pub put : HasTakenLines heard old_sink new_sink lines
  pub within : AreLinesOfPlaces (length old) lines
  pub deeds : List (NetworkDeed A W)
  pub added : HasAdded does old_network new_network deeds
  pub own : AreOfPlaces (length old) deeds
  pub each : (i : ℕ) (x y : Standing M S A W) → slice_get old i ≡ Some x → slice_get new i ≡ Some y
      → HasComeOn agrees wants did from to i x y (lines_at i lines) (deeds_at i deeds)

-- ---- parts of it

-- so many places, for which nothing goes on
pub record AreIdle {M A S W : Type 0} (len : ℕ) (beside : List (Outbound M A S W)) : Type 0 where
  pub places : length beside ≡ len
  pub idle : (i : ℕ) (o : Outbound M A S W) → slice_get beside i ≡ Some o → o ≡ outbound.Idle

-- a connection is under way for this place
abbrev pub IsTryingAt : {M A S W : Type 0} → List (Outbound M A S W) → ℕ → Type 0
IsTryingAt {M} {A} {S} {W} beside at = (machine : M) × (dial : Dial A S W)
    × (slice_get beside at ≡ Some (outbound.Trying machine dial))

-- The network was asked for the connection that is under way for this place: so far it has come by now.
pub record HasAskedAt {M S A W N : Type 0} (did : S → S → List Deed → Type 0)
    (does : N → N → List (NetworkDeed A W) → Type 0) (at now : ℕ) (old new : List (Place M S))
    (before after : List (Outbound M A S W)) (old_network new_network : N) : Type 0 where
  pub machine : M
  pub dial : Dial A S W
  pub trying : slice_get before at ≡ Some (outbound.Trying machine dial)
  pub came : Dialled A S W
  pub dialled : HasDialled does at now (λ from deeds. IsDialling at from now dial deeds) dial.tries.bounds
      dial.tries.addresses.items came old_network new_network
  pub fresh : IfDialled came (λ stream. did stream stream [])
  pub places : new ≡ slice_set old at (place_by machine dial.tries.bounds now came)
  pub beside : after ≡ slice_set before at (outbound_by machine came)

-- what is handed out where a connection was under way, or was missed
abbrev pub handed_out : {M A S W : Type 0} → Outbound M A S W → Taken M S W
handed_out outbound.Idle = taken.UnderWay
handed_out (outbound.Trying machine dial) = taken.UnderWay
handed_out (outbound.Missed why) = taken.Missed why

-- ---- what is kept

-- a connection that is under way is waited for until it is given up, and has a machine that is able to go on, a stream
-- that has done nothing, and an address; one that was missed was stirred
abbrev pub IsOutboundSound : {M A S W : Type 0} → (M → M → List Told → Type 0) → (M → Wants)
    → (S → S → List Deed → Type 0) → Place M S → Outbound M A S W → Type 0
IsOutboundSound agrees wants did place outbound.Idle = (until : Option ℕ) → place_kind place ≡ UnderWay until → ⊥
IsOutboundSound {M} {A} agrees wants did place (outbound.Trying machine dial) =
    (place_kind place ≡ UnderWay (gives_up_at dial.tries.bounds dial.since)) × IsAble agrees wants machine
    × did dial.stream dial.stream []
    × ((address : A) × (slice_get dial.tries.addresses.items dial.tries.missed ≡ Some address))
IsOutboundSound agrees wants did place (outbound.Missed why) = (place_kind place ≡ UnderWay None)
    × (is_stirred place ≡ true)

-- What goes on beside each place fits what stands in it.
pub record IsNetworkSound {M A S W : Type 0} (agrees : M → M → List Told → Type 0) (wants : M → Wants)
    (did : S → S → List Deed → Type 0) (l : LoopValue M S) (beside : List (Outbound M A S W)) : Type 0 where
  pub len : length beside ≡ length l.places
  pub each : (i : ℕ) (place : Place M S) (o : Outbound M A S W) → slice_get l.places i ≡ Some place
      → slice_get beside i ≡ Some o → IsOutboundSound agrees wants did place o
