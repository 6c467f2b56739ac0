-- Tapped connections in their pairs of places: what stands there, beside all that was told of them.
use Rattle.std.specs.Prelude.{◌≡◌, ℕ, ◌+◌, ◌-◌, ◌^◌, ◌<◌, ◌≤◌, ⊤, true, false, List, [], ◌∷◌, ◌++◌, length, nat_lt}
use Rattle.std.specs.Prelude.{if◌then◌else◌, slice_get, slice_set, Option, Some, None, zero, suc}
use Rattle.std.specs.List.{All}
use Rattle.ws_wire.specs.declared.role.Role.{Role}
use Rattle.ws_wire.specs.declared.role.Role.TheVariants.{Client, Server}
use Rattle.ws_frame.specs.Devices.{Device, HasWritten}
use Rattle.ws_frame.specs.declared.show_fault.ShowFault.{ShowFault}
use Rattle.ws_frame.specs.declared.show_fault.ShowFault.TheVariants as shown
use Rattle.ws_loops.specs.Deeds.{Deed}
use Rattle.ws_loops.specs.Listeners.{AcceptDeed, HasHeard}
use Rattle.ws_loops.specs.Listeners.AcceptDeed.{CouldNotGive}
use Rattle.ws_networks.specs.Connecting.{HasNextAddress, IfDialled, IsDialled, KeepsTries}
use Rattle.ws_networks.specs.Networks.{HasAdded, NetworkDeed, deeds_at}
use Rattle.ws_networks.specs.Networks.NetworkDeed.{Found}
use Rattle.ws_networks.specs.declared.dialing.Dialled.{Dialled}
use Rattle.ws_networks.specs.declared.dialing.Dialled.TheVariants as dialled
use Rattle.ws_clients.specs.Numbers.{clients_given, clients_numbered}
use Rattle.ws_tap.specs.Tapping.{HasTapped}
use Rattle.ws_tap.specs.Told.{TapTold}
use Rattle.ws_relays.specs.Connections.{HasServer, unbound}
use Rattle.ws_relays.specs.EndPlaces.{AwaitedPlace, EndThere, FreePlace, HasComeAmong, HasEndAt, HeldEnd, KeptPlace}
use Rattle.ws_relays.specs.TappedEnds.{IsTappedEndIn}
use Rattle.ws_relays.specs.Tappings.{ArePartsInTurn, EndOf, HasRelayEnded, IsTapPartOf, TapPart, WasDoneFor}
use Rattle.ws_relays.specs.Tappings.{ends_of_parts, lines_of_number, numbers_of_ends, parts_text, tapped_in}
use Rattle.ws_relays.specs.declared.ends.EndEvent.{EndEvent}
use Rattle.ws_relays.specs.declared.ends.EndEvent.TheVariants as came
use Rattle.ws_relays.specs.declared.once.Happened.{Happened}
use Rattle.ws_relays.specs.declared.relay.Relay.{Relay}
use Rattle.ws_relays.specs.declared.relays.Pair.{Pair}
use Rattle.ws_relays.specs.declared.relays.Pair.TheVariants as pair
use Rattle.ws_relays.specs.declared.relays.RelayEnd.{RelayEnd}
use Rattle.ws_relays.specs.declared.relays.RelayEvent.{RelayEvent}
use Rattle.ws_relays.specs.declared.relays.RelayEvent.TheVariants as event
use Rattle.ws_relays.specs.declared.relays.RelayFault.{RelayFault}
use Rattle.ws_relays.specs.declared.relays.RelayFault.TheVariants as fault
use Rattle.ws_relays.specs.declared.relays.Relays.{Relays}
use Rattle.ws_relays.specs.declared.tapping.Tapping.{Tapping}

-- which end stands in this place, of which client, where there may be so many; and the place of an end
abbrev pub end_at : ℕ → ℕ → ℕ × Role
end_at len place = if nat_lt place len then (place, Client) else (place - len, Server)

abbrev pub end_place : ℕ → ℕ → Role → ℕ
end_place len at Client = at
end_place len at Server = len + at

-- ---- a pair of places

-- all that was told of connections, and that the network did
pub record RelaysTold (A W : Type 0) : Type 0 where
  pub parts : List TapPart
  pub done : List (NetworkDeed A W)

-- nothing
abbrev pub no_parts : {A W : Type 0} → RelaysTold A W
no_parts = record { parts = []; done = [] }

-- these parts more, and these deeds of the network
abbrev pub told_more : {A W : Type 0} → RelaysTold A W → List TapPart → List (NetworkDeed A W) → RelaysTold A W
told_more all parts done = record { parts = all.parts ++ parts; done = all.done ++ done }

-- A connection goes on: its tap was told of both its ends, and its lines are those that were written of it. The network
-- has made a connection to the server for it.
pub record IsRelayIn {A S W : Type 0} (did : S → S → List Deed → Type 0) (tapping : Tapping)
    (ends : List (EndThere S)) (at : ℕ) (relay : Relay) (parts : List TapPart) (done : List (NetworkDeed A W)) : Type 0
  where
    pub told : List TapTold
    pub stands : HasTapped (tapped_in tapping.style relay.number) told relay.tap.value
        (lines_of_number relay.number parts)
    pub client : IsTappedEndIn did Client relay.tap.value told ends at
    pub served : IsTappedEndIn did Server relay.tap.value told ends (tapping.at_once + at)
    pub mine : List (NetworkDeed A W)
    pub among : WasDoneFor (tapping.at_once + at) mine done
    pub made : HasServer tapping.server.now (tapping.at_once + at) mine

-- One is to be made, and this has come of it by now: the client waits, of which nothing was told, and the addresses of
-- the server were tried for it.
pub record IsSettlingIn {A S W : Type 0} (did : S → S → List Deed → Type 0) (tapping : Tapping)
    (ends : List (EndThere S)) (at now number : ℕ) (came : Dialled A S W) (parts : List TapPart)
    (done : List (NetworkDeed A W)) : Type 0 where
  pub client : S
  pub waits : slice_get ends at ≡ Some (HeldEnd client)
  pub new : did client client []
  pub kept : HasEndAt ends (tapping.at_once + at) false
  pub silent : lines_of_number number parts ≡ []
  pub addresses : List A
  pub before : List (NetworkDeed A W)
  pub after : List (NetworkDeed A W)
  pub looked : done ≡ before ++ Found tapping.server.now addresses ∷ after
  pub from : ℕ
  pub dialled : IsDialled (tapping.at_once + at) from now unbound addresses came (deeds_at (tapping.at_once + at) after)
  pub tries : KeepsTries unbound addresses came
  pub next : HasNextAddress came
  pub fresh : IfDialled came (λ stream. did stream stream [])

-- what goes on for a client
abbrev pub IsPairIn : {A S W : Type 0} → (S → S → List Deed → Type 0) → Tapping → List (EndThere S) → ℕ → ℕ
    → List TapPart → List (NetworkDeed A W) → Pair A S W → Type 0
IsPairIn did tapping ends at now parts done pair.Free = (slice_get ends at ≡ Some FreePlace)
    × (slice_get ends (tapping.at_once + at) ≡ Some KeptPlace)
IsPairIn did tapping ends at now parts done (pair.Joining number dial) =
    (slice_get ends (tapping.at_once + at) ≡ Some AwaitedPlace)
    × IsSettlingIn did tapping ends at now number (dialled.Waits dial) parts done
IsPairIn did tapping ends at now parts done (pair.Joined relay) = IsRelayIn did tapping ends at relay parts done

-- the number of the client for whom something goes on
abbrev pub number_of_pair : {A S W : Type 0} → Pair A S W → Option ℕ
number_of_pair pair.Free = None
number_of_pair (pair.Joining number dial) = Some number
number_of_pair (pair.Joined relay) = Some relay.number

-- Each pair of places but this one stands as it was told, and these are the numbers of the clients.
pub record ArePairsStanding {A S W : Type 0} (did : S → S → List Deed → Type 0) (tapping : Tapping)
    (ends : List (EndThere S)) (now : ℕ) (pairs : List (Pair A S W)) (but : ℕ) (numbers : List (Option ℕ))
    (parts : List TapPart) (done : List (NetworkDeed A W)) : Type 0 where
  pub many : length pairs ≡ tapping.at_once
  pub places : length ends ≡ tapping.at_once + tapping.at_once
  pub room : tapping.at_once + tapping.at_once < 2 ^ 64
  pub each : (at : ℕ) (pair : Pair A S W) → (at ≡ but → ⊥) → slice_get pairs at ≡ Some pair
      → (slice_get numbers at ≡ Some (number_of_pair pair)) × IsPairIn did tapping ends at now parts done pair

-- ---- the numbers of the clients

-- So many have come, and have these numbers in the places, where so many are there, and these parts tell of all. Each
-- number that was given is in one place, or its end was told.
pub record AreRelayNumbers (at_once taken there : ℕ) (numbers : List (Option ℕ)) (parts : List TapPart) : Type 0 where
  pub len : length numbers ≡ at_once
  pub given : (at n : ℕ) → slice_get numbers at ≡ Some (Some n) → (1 ≤ n) × (n ≤ taken)
      × All (λ ended. ended ≡ n → ⊥) (numbers_of_ends (ends_of_parts parts))
  pub apart : (at other n : ℕ) → slice_get numbers at ≡ Some (Some n) → slice_get numbers other ≡ Some (Some n)
      → at ≡ other
  pub stays : (n : ℕ) → 1 ≤ n → n ≤ taken → All (λ ended. ended ≡ n → ⊥) (numbers_of_ends (ends_of_parts parts))
      → (at : ℕ) × (slice_get numbers at ≡ Some (Some n))
  pub count : there ≡ clients_numbered numbers
  pub sum : taken ≡ there + length (ends_of_parts parts)
  pub turns : ArePartsInTurn at_once 0 parts
  pub came : All (IsTapPartOf taken) parts

-- ---- all of them

-- The pairs of places stand but for this one, these are the numbers of the clients, and each end that was told follows
-- from what was done.
pub record AreRelaysBut {A S W : Type 0} (did : S → S → List Deed → Type 0) (tapping : Tapping)
    (relays : Relays A S W) (but : ℕ) (numbers : List (Option ℕ)) (all : RelaysTold A W) : Type 0 where
  pub style : relays.style ≡ tapping.style
  pub server : relays.server.now ≡ tapping.server.now
  pub pairs : ArePairsStanding did tapping relays.ends relays.time relays.pairs.items but numbers all.parts all.done
  pub numbered : AreRelayNumbers tapping.at_once relays.taken relays.there numbers all.parts
  pub ends_so : All (λ end. HasRelayEnded did tapping all.done all.parts end.0 end.1) (ends_of_parts all.parts)

-- all pairs do
abbrev pub AreRelays : {A S W : Type 0} → (S → S → List Deed → Type 0) → Tapping → Relays A S W → RelaysTold A W
    → Type 0
AreRelays did tapping relays all = (numbers : List (Option ℕ))
    × AreRelaysBut did tapping relays tapping.at_once numbers all

-- each but the one in which something goes on for the client of this number
abbrev pub IsOpenAt : {A S W : Type 0} → (S → S → List Deed → Type 0) → Tapping → Relays A S W → ℕ → ℕ
    → RelaysTold A W → Type 0
IsOpenAt did tapping relays at number all = (numbers : List (Option ℕ))
    × AreRelaysBut did tapping relays at numbers all × (slice_get numbers at ≡ Some (Some number))

-- whatever was to be tapped and was told: this holds of something
abbrev pub OfSome : {A W : Type 0} → (Tapping → RelaysTold A W → Type 0) → Type 0
OfSome {A} {W} stood = (tapping : Tapping) × (all : RelaysTold A W) × stood tapping all

-- they stand, whatever was told
abbrev pub AreStanding : {A S W : Type 0} → (S → S → List Deed → Type 0) → Relays A S W → Type 0
AreStanding did relays = OfSome (λ tapping all. AreRelays did tapping relays all)

-- ---- what is done with a pair

-- with these ends
abbrev pub with_ends : {A S W : Type 0} → Relays A S W → List (EndThere S) → Relays A S W
with_ends relays ends = record relays { ends = ends }

-- they stood, and this has happened among their ends since
abbrev pub StoodUntil : {A S W : Type 0} → (S → S → List Deed → Type 0) → Relays A S W → EndEvent S W → Tapping
    → RelaysTold A W → Type 0
StoodUntil {S = S} did relays came tapping all = (before : List (EndThere S))
    × AreRelays did tapping (with_ends relays before) all × HasComeAmong did before relays.ends came

-- the connection in this place has ended so
abbrev pub RelayEndsIn : {A S W : Type 0} → (S → S → List Deed → Type 0) → Relays A S W → ℕ → ℕ → RelayEnd → Tapping
    → RelaysTold A W → Type 0
RelayEndsIn did relays at number end tapping all = IsOpenAt did tapping relays at number all
    × HasRelayEnded did tapping all.done all.parts number end

-- a client has come, for whom nothing was done yet
pub record ComesIn {A S W : Type 0} (did : S → S → List Deed → Type 0) (relays : Relays A S W) (at number : ℕ)
    (tapping : Tapping) (all : RelaysTold A W) : Type 0 where
  pub others : IsOpenAt did tapping relays at number all
  pub client : S
  pub waits : slice_get relays.ends at ≡ Some (HeldEnd client)
  pub new : did client client []
  pub kept : HasEndAt relays.ends (tapping.at_once + at) false
  pub silent : lines_of_number number all.parts ≡ []

-- this came of a connection to the server
abbrev pub SettlesAt : {A S W : Type 0} → (S → S → List Deed → Type 0) → Relays A S W → ℕ → ℕ → Dialled A S W
    → Tapping → RelaysTold A W → Type 0
SettlesAt did relays at number came tapping all = IsOpenAt did tapping relays at number all
    × IsSettlingIn did tapping relays.ends at relays.time number came all.parts all.done

-- it is tapped
abbrev pub IsTappedIn : {A S W : Type 0} → (S → S → List Deed → Type 0) → Relays A S W → ℕ → Relay → Tapping
    → RelaysTold A W → Type 0
IsTappedIn did relays at relay tapping all = IsOpenAt did tapping relays at relay.number all
    × IsRelayIn did tapping relays.ends at relay all.parts all.done

-- it is tapped, and this has happened at one of its ends, of which the tap wasn't told
abbrev pub PassesIn : {A S W : Type 0} → (S → S → List Deed → Type 0) → Relays A S W → ℕ → Role → Relay → Happened
    → Tapping → RelaysTold A W → Type 0
PassesIn {S = S} {W = W} did relays at role relay what tapping all = IsOpenAt did tapping relays at relay.number all
    × ((before : List (EndThere S)) × IsRelayIn did tapping before at relay all.parts all.done
    × HasComeAmong {W = W} did before relays.ends (came.Happened (end_place tapping.at_once at role) what))

-- ---- what happens among them

-- the line that is written next, if a connection has ended
abbrev pub parts_next : Option RelayEvent → List TapPart
parts_next None = []
parts_next (Some (event.Ended number end)) = EndOf number end ∷ []
parts_next (Some event.Full) = []
parts_next (Some event.Deaf) = []

-- no shortage is told
abbrev pub IsNoShortage : Option RelayEvent → Type 0
IsNoShortage None = ⊤
IsNoShortage (Some (event.Ended number end)) = ⊤
IsNoShortage (Some event.Full) = ⊥
IsNoShortage (Some event.Deaf) = ⊥

-- Whatever stood before, and was told, all stands now, by that and the line that is written next. The network did these
-- things.
pub record StandByDeeds {A S N W : Type 0} (did : S → S → List Deed → Type 0)
    (ndid : N → N → List (NetworkDeed A W) → Type 0) (stood : Tapping → RelaysTold A W → Type 0) (network after : N)
    (new : Relays A S W) (came : Option RelayEvent) : Type 0 where
  pub done : List (NetworkDeed A W)
  pub added : HasAdded ndid network after done
  pub stands : (tapping : Tapping) (all : RelaysTold A W) → stood tapping all
      → AreRelays did tapping new (told_more all (parts_next came) done)

-- the same, where the network did nothing
abbrev pub StandsSo : {A S W : Type 0} → (S → S → List Deed → Type 0) → (Tapping → RelaysTold A W → Type 0)
    → Relays A S W → Option RelayEvent → Type 0
StandsSo {A} {S} {W} did stood new came = (tapping : Tapping) (all : RelaysTold A W) → stood tapping all
    → AreRelays did tapping new (told_more all (parts_next came) [])

-- and some lines more were written
abbrev pub StandsTelling : {A S W : Type 0} → (S → S → List Deed → Type 0) → (Tapping → RelaysTold A W → Type 0)
    → Relays A S W → Device → Option RelayEvent → Type 0
StandsTelling {A} {S} {W} did stood new output came = (output.failed ≡ false) × ((tapping : Tapping)
    (all : RelaysTold A W) → stood tapping all → (more : List TapPart) × HasWritten (parts_text more) output
    × (ends_of_parts more ≡ []) × AreRelays did tapping new (told_more all (more ++ parts_next came) []))

-- nothing goes on any more: memory ran out, and some lines were perhaps written, or the output has failed
abbrev pub StopsTelling : Device → RelayFault → Type 0
StopsTelling output fault.NoMemory = (output.failed ≡ false) × ((some : List ℕ) × HasWritten some output)
StopsTelling output fault.Output = output.failed ≡ true
StopsTelling output fault.WaitFailed = (output.failed ≡ false) × HasWritten [] output

-- what is told where no client can be taken, and so many are there
abbrev pub shortage_told : ℕ → RelayEvent
shortage_told zero = event.Deaf
shortage_told (suc n) = event.Full

-- no line was written that wasn't told before
abbrev pub IsSilentFault : RelayFault → Type 0
IsSilentFault fault.NoMemory = ⊤
IsSilentFault fault.Output = ⊥
IsSilentFault fault.WaitFailed = ⊤

-- why lines are not told, as a fault of all
abbrev pub fault_shown : ShowFault → RelayFault
fault_shown shown.Write = fault.Output
fault_shown shown.NoMemory = fault.NoMemory

-- What was seen to: so many clients were taken by it, and where no client can be taken that is told.
abbrev pub clients_in : {S W : Type 0} → EndEvent S W → ℕ
clients_in (came.Happened at what) = 0
clients_in (came.Stirred at) = 0
clients_in (came.Client at stream) = 1
clients_in (came.Full why) = 0

abbrev pub TellsOfEnds : {S W : Type 0} → EndEvent S W → ℕ → Option RelayEvent → Type 0
TellsOfEnds (came.Full why) there told = told ≡ Some (shortage_told there)
TellsOfEnds _ there told = IsNoShortage told

-- some lines more were written, and the network did some things more
pub record SeesToEnds {A S N W : Type 0} (did : S → S → List Deed → Type 0)
    (ndid : N → N → List (NetworkDeed A W) → Type 0) (stood : Tapping → RelaysTold A W → Type 0)
    (event : EndEvent S W) (network after : N) (old new : Relays A S W) (output : Device) (told : Option RelayEvent)
    : Type 0 where
  pub works : output.failed ≡ false
  pub taken : new.taken ≡ old.taken + clients_in event
  pub tells : TellsOfEnds event new.there told
  pub done : List (NetworkDeed A W)
  pub added : HasAdded ndid network after done
  pub stands : (tapping : Tapping) (all : RelaysTold A W) → stood tapping all → (more : List TapPart)
      × HasWritten (parts_text more) output × (ends_of_parts more ≡ [])
      × AreRelays did tapping new (told_more all (more ++ parts_next told) done)

-- Of an end in this place is asked what its tap asks for, or as before. The others are as they were.
pub record AsksEnd {S : Type 0} (did : S → S → List Deed → Type 0) (old new : List (EndThere S)) (place : ℕ)
    (role : Role) (relay : Relay) : Type 0 where
  pub there : EndThere S
  pub is : new ≡ slice_set old place there
  pub own : (told : List TapTold) → IsTappedEndIn did role relay.tap.value told old place
      → IsTappedEndIn did role relay.tap.value told new place

-- why nobody comes any more
abbrev pub IsShortage : {W : Type 0} → ℕ → List (AcceptDeed W) → Option RelayEvent → Type 0
IsShortage there deeds None = ⊤
IsShortage there deeds (Some (event.Ended number end)) = ⊤
IsShortage {W} there deeds (Some event.Full) = (before : List (AcceptDeed W)) × (why : W)
    × (deeds ≡ before ++ CouldNotGive why ∷ [])
IsShortage {W} there deeds (Some event.Deaf) = (there ≡ 0) × ((before : List (AcceptDeed W)) × (why : W)
    × (deeds ≡ before ++ CouldNotGive why ∷ []))

-- The listener and the network did some things more, and some lines more were written: whatever was told before, all
-- stands by that and these, and the line that is written next.
pub record RelayOn {A S L N W : Type 0} (did : S → S → List Deed → Type 0)
    (ldid : L → L → List (AcceptDeed W) → Type 0) (ndid : N → N → List (NetworkDeed A W) → Type 0)
    (listener later : L) (network after : N) (old new : Relays A S W) (output : Device) (came : Option RelayEvent)
    : Type 0 where
  pub deeds : List (AcceptDeed W)
  pub heard : HasHeard ldid listener later deeds
  pub taken : new.taken ≡ old.taken + clients_given deeds
  pub done : List (NetworkDeed A W)
  pub added : HasAdded ndid network after done
  pub shortage : IsShortage new.there deeds came
  pub works : output.failed ≡ false
  pub parts : (tapping : Tapping) (all : RelaysTold A W) → AreRelays did tapping old all → (more : List TapPart)
      × HasWritten (parts_text more) output × (ends_of_parts more ≡ [])
      × AreRelays did tapping new (told_more all (more ++ parts_next came) done)

-- Nothing goes on any more. Where nothing can be waited for, all stands as some states before that made it.
abbrev pub RelaysStop : {A S L N W : Type 0} → (S → S → List Deed → Type 0) → (L → L → List (AcceptDeed W) → Type 0)
    → (N → N → List (NetworkDeed A W) → Type 0) → L → N → Relays A S W → Device → RelayFault → Type 0
RelaysStop did ldid ndid listener network old output fault.NoMemory = (output.failed ≡ false)
    × ((some : List ℕ) × HasWritten some output)
RelaysStop did ldid ndid listener network old output fault.Output = output.failed ≡ true
RelaysStop {A} {S} {L} {N} {W} did ldid ndid listener network old output fault.WaitFailed = (later : L) × (after : N)
    × (mid : Relays A S W) × RelayOn did ldid ndid listener later network after old mid output None
