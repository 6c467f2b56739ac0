-- A connection to a name, for a place of a loop: each of its addresses is tried, one after the other, until one takes
-- it.
use Rattle.std.specs.Prelude.{◌≡◌, ℕ, ◌≤◌, ◌⊎◌, ⊤, true, List, [], ◌∷◌, ◌++◌, replicate, take, Option, Some, None}
use Rattle.std.specs.Prelude.{Bool, false, if◌then◌else◌, nat_eq, ◌+◌, slice_get}
use Rattle.ws_networks.specs.Networks.{AreDeedsOf, HasAdded, NetworkDeed}
use Rattle.ws_networks.specs.Networks.NetworkDeed.{Asked, Begun, Found, NotBegun, NotFound}
use Rattle.ws_networks.specs.Bounds.{is_given_up}
use Rattle.ws_networks.specs.declared.bounds.Bounds.{Bounds}
use Rattle.ws_networks.specs.declared.network.Progress.{Progress}
use Rattle.ws_networks.specs.declared.network.Progress.TheVariants as progress
use Rattle.ws_networks.specs.declared.dialing.Dial.{Dial}
use Rattle.ws_networks.specs.declared.dialing.Dialled.{Dialled}
use Rattle.ws_networks.specs.declared.dialing.Dialled.TheVariants as dialled
use Rattle.ws_networks.specs.declared.dialing.Missed.{Missed}
use Rattle.ws_networks.specs.declared.dialing.Missed.TheVariants as miss
use Rattle.ws_networks.specs.declared.dialing.Tried.{Tried}
use Rattle.ws_networks.specs.declared.dialing.Tried.TheVariants as tried
use Rattle.ws_networks.specs.declared.dialing.Tries.{Tries}

-- the place of a connection that is waited for by itself
abbrev pub only_place : ℕ
only_place = 0

-- ---- one address

-- it was asked some times for this place, and each time the connection was pending
abbrev pub asked_often : {A W : Type 0} → ℕ → ℕ → List (NetworkDeed A W)
asked_often at n = replicate n (Asked at progress.Pending)

-- it was asked some times, and at last it was so: each time before the connection was pending
abbrev pub AreAsked : {A W : Type 0} → ℕ → Progress W → List (NetworkDeed A W) → Type 0
AreAsked at at_last deeds = (n : ℕ) × (deeds ≡ asked_often at n ++ Asked at at_last ∷ [])

-- a connection to this address was begun for this place by this time, and at last it was so
abbrev pub WasBegun : {A W : Type 0} → ℕ → A → ℕ → Progress W → List (NetworkDeed A W) → Type 0
WasBegun {A} {W} at address since at_last deeds = (asked : List (NetworkDeed A W))
    × (deeds ≡ Begun at address since ∷ asked) × AreAsked at at_last asked

-- The address has taken no connection, and was tried from the first time to the second. It could not be begun, for this
-- reason; or it was begun by the first time, and has failed, for this reason, or was pending, and is waited for no
-- longer.
abbrev pub IsMissed : {A W : Type 0} → ℕ → Bounds → ℕ → ℕ → A → Missed W → List (NetworkDeed A W) → Type 0
IsMissed at bounds since now address miss.NoAddress deeds = ⊥
IsMissed at bounds since now address (miss.Failed why) deeds = (deeds ≡ NotBegun at address why ∷ [])
    ⊎ WasBegun at address since (progress.Failed why) deeds
IsMissed at bounds since now address miss.TimedOut deeds = WasBegun at address since progress.Pending deeds
    × (is_given_up bounds since now ≡ true)

-- the same, at some time between these
abbrev pub IsMissedBetween : {A W : Type 0} → ℕ → Bounds → ℕ → ℕ → A → Missed W → List (NetworkDeed A W) → Type 0
IsMissedBetween at bounds from to address why deeds = (since now : ℕ) × (from ≤ since) × (since ≤ now) × (now ≤ to)
    × IsMissed at bounds since now address why deeds

-- ---- each address

-- each was tried, one after the other, and none has taken a connection, for these reasons
abbrev pub AreMissed : {A W : Type 0} → ℕ → Bounds → ℕ → ℕ → List A → List (Missed W) → List (NetworkDeed A W) → Type 0
AreMissed at bounds from to [] [] deeds = (from ≤ to) × (deeds ≡ [])
AreMissed at bounds from to [] (why ∷ misses) deeds = ⊥
AreMissed at bounds from to (address ∷ others) [] deeds = ⊥
AreMissed {A} {W} at bounds from to (address ∷ others) (why ∷ misses) deeds = (mid : ℕ)
    × (one rest : List (NetworkDeed A W)) × (deeds ≡ one ++ rest)
    × IsMissedBetween at bounds from mid address why one × AreMissed at bounds mid to others misses rest

-- the reason that is told: the first, or that there is no address
abbrev pub first_miss : {W : Type 0} → List (Missed W) → Missed W
first_miss [] = miss.NoAddress
first_miss (why ∷ misses) = why

-- None of these addresses has taken a connection, and the first reason is told.
pub record AllMissed {A W : Type 0} (at : ℕ) (bounds : Bounds) (from to : ℕ) (addresses : List A) (why : Missed W)
    (deeds : List (NetworkDeed A W)) : Type 0 where
  pub misses : List (Missed W)
  pub tried : AreMissed at bounds from to addresses misses deeds
  pub first : why ≡ first_miss misses

-- One of these addresses has taken a connection, which was begun once those in front of it had taken none.
pub record OneMade {A W : Type 0} (at : ℕ) (bounds : Bounds) (from to : ℕ) (addresses : List A)
    (deeds : List (NetworkDeed A W)) : Type 0 where
  pub before : List A
  pub address : A
  pub after : List A
  pub parts : addresses ≡ before ++ address ∷ after
  pub mid : ℕ
  pub misses : List (Missed W)
  pub tried : List (NetworkDeed A W)
  pub made : List (NetworkDeed A W)
  pub all : deeds ≡ tried ++ made
  pub are_missed : AreMissed at bounds from mid before misses tried
  pub since : ℕ
  pub behind : mid ≤ since
  pub was_made : WasBegun at address since progress.Made made
  pub later : since ≤ to

-- ---- a connection that is under way

-- The first of the addresses, so many as were missed, have taken no connection, and the first reason is known.
pub record HaveMissed {A W : Type 0} (at from to : ℕ) (tries : Tries A W) (deeds : List (NetworkDeed A W)) : Type 0
  where
    pub misses : List (Missed W)
    pub tried : AreMissed at tries.bounds from to (take tries.missed tries.addresses.items) misses deeds
    pub first : tries.first ≡ first_miss misses

-- Since the first time these things were done for it. The addresses that were missed have taken no connection; one to
-- the next address was begun by the time since which it is waited for, and was pending each time that it was asked for.
pub record IsDialling {A S W : Type 0} (at from now : ℕ) (dial : Dial A S W) (deeds : List (NetworkDeed A W)) : Type 0
  where
    pub mid : ℕ
    pub tried : List (NetworkDeed A W)
    pub address : A
    pub asked : ℕ
    pub missed : HaveMissed at from mid dial.tries tried
    pub is : slice_get dial.tries.addresses.items dial.tries.missed ≡ Some address
    pub after : mid ≤ dial.since
    pub before : dial.since ≤ now
    pub all : deeds ≡ tried ++ Begun at address dial.since ∷ asked_often at asked

-- What came of it, where these things were done for it since the first time: one of the addresses has taken the
-- connection, and none in front of it; it is still under way; or none has taken it.
abbrev pub IsDialled : {A S W : Type 0} → ℕ → ℕ → ℕ → Bounds → List A → Dialled A S W → List (NetworkDeed A W) → Type 0
IsDialled at from now bounds addresses (dialled.Made stream) deeds = OneMade at bounds from now addresses deeds
IsDialled at from now bounds addresses (dialled.Waits dial) deeds = IsDialling at from now dial deeds
IsDialled at from now bounds addresses (dialled.Missed why) deeds = AllMissed at bounds from now addresses why deeds

-- one that is under way still has these addresses and these bounds
abbrev pub KeepsTries : {A S W : Type 0} → Bounds → List A → Dialled A S W → Type 0
KeepsTries bounds addresses (dialled.Waits dial) = (dial.tries.addresses.items ≡ addresses)
    × (dial.tries.bounds ≡ bounds)
KeepsTries bounds addresses _ = ⊤

-- a connection that was begun so was begun by this time
abbrev pub IsBegunBy : {A W : Type 0} → ℕ → NetworkDeed A W → Type 0
IsBegunBy now (Begun at address since) = since ≡ now
IsBegunBy now _ = ⊤

abbrev pub AreBegunBy : {A W : Type 0} → ℕ → List (NetworkDeed A W) → Type 0
AreBegunBy now [] = ⊤
AreBegunBy now (x ∷ deeds) = IsBegunBy now x × AreBegunBy now deeds

-- The network did some things more for it by now, all of them for this place, and no connection was begun but by now:
-- whatever was done since some time of which the first property says how it stood, what came of it is by that and
-- these.
pub record HasDialled {A S W N : Type 0} (does : N → N → List (NetworkDeed A W) → Type 0) (at now : ℕ)
    (stood : ℕ → List (NetworkDeed A W) → Type 0) (bounds : Bounds) (addresses : List A) (came : Dialled A S W)
    (old new : N) : Type 0 where
  pub deeds : List (NetworkDeed A W)
  pub added : HasAdded does old new deeds
  pub own : AreDeedsOf at deeds
  pub begun : AreBegunBy now deeds
  pub kept : KeepsTries bounds addresses came
  pub dialled : (from : ℕ) (before : List (NetworkDeed A W)) → stood from before
      → IsDialled at from now bounds addresses came (before ++ deeds)

-- the connection that was made or is under way has a stream that has done nothing
abbrev pub IfDialled : {A S W : Type 0} → Dialled A S W → (S → Type 0) → Type 0
IfDialled (dialled.Made stream) P = P stream
IfDialled (dialled.Waits dial) P = P dial.stream
IfDialled (dialled.Missed why) P = ⊤

-- one that is under way has an address that is tried
abbrev pub HasNextAddress : {A S W : Type 0} → Dialled A S W → Type 0
HasNextAddress {A} (dialled.Waits dial) = (address : A)
    × (slice_get dial.tries.addresses.items dial.tries.missed ≡ Some address)
HasNextAddress _ = ⊤

-- ---- what comes of a name

-- the name has no address, for this reason
abbrev pub LacksName : {A W : Type 0} → List ℕ → Option (Missed W) → List (NetworkDeed A W) → Type 0
LacksName {A} {W} name why deeds = (cause : W) × (why ≡ Some (miss.Failed cause))
    × (deeds ≡ NotFound name cause ∷ [])

-- of these addresses one has taken a connection, or none has, for this reason
abbrev pub HasTried : {A W : Type 0} → ℕ → Bounds → ℕ → ℕ → List A → Option (Missed W) → List (NetworkDeed A W) → Type 0
HasTried at bounds from to addresses None deeds = OneMade at bounds from to addresses deeds
HasTried at bounds from to addresses (Some why) deeds = AllMissed at bounds from to addresses why deeds

-- the name has addresses, which were tried
abbrev pub HasTriedName : {A W : Type 0} → ℕ → Bounds → ℕ → ℕ → List ℕ → Option (Missed W) → List (NetworkDeed A W)
    → Type 0
HasTriedName {A} {W} at bounds from to name why deeds = (addresses : List A) × (tries : List (NetworkDeed A W))
    × (deeds ≡ Found name addresses ∷ tries) × HasTried at bounds from to addresses why tries

-- what the network did for a connection to this name, and why none was made, if none was
abbrev pub Connects : {A W : Type 0} → ℕ → Bounds → ℕ → ℕ → List ℕ → Option (Missed W) → List (NetworkDeed A W) → Type 0
Connects at bounds from to name why deeds = LacksName name why deeds ⊎ HasTriedName at bounds from to name why deeds

-- the network did this for it since the first state
abbrev pub HasConnected : {A W N : Type 0} → (N → N → List (NetworkDeed A W) → Type 0) → ℕ → Bounds → ℕ → ℕ → N → N
    → List ℕ → Option (Missed W) → Type 0
HasConnected {A} {W} did at bounds from to old new name why = (deeds : List (NetworkDeed A W))
    × HasAdded did old new deeds × Connects at bounds from to name why deeds

-- ---- parts of it

-- what is known of an address for which the network was asked, where it is waited for no longer or still
abbrev pub tried_by : {S W : Type 0} → S → Progress W → Bool → Tried S W
tried_by stream progress.Made late = tried.Made stream
tried_by stream progress.Pending late = if late then tried.Missed miss.TimedOut else tried.Waits stream
tried_by stream (progress.Failed why) late = tried.Missed (miss.Failed why)

-- an address was tried by now
abbrev pub IsTried : {A S W : Type 0} → ℕ → Bounds → ℕ → A → Tried S W → List (NetworkDeed A W) → Type 0
IsTried at bounds now address (tried.Made stream) deeds = WasBegun at address now progress.Made deeds
IsTried at bounds now address (tried.Waits stream) deeds = WasBegun at address now progress.Pending deeds
IsTried at bounds now address (tried.Missed why) deeds = IsMissed at bounds now now address why deeds

abbrev pub HasTriedOne : {A S W N : Type 0} → (N → N → List (NetworkDeed A W) → Type 0) → ℕ → Bounds → ℕ → N → N → A
    → Tried S W → Type 0
HasTriedOne {A} {S} {W} did at bounds now old new address came = (deeds : List (NetworkDeed A W))
    × HasAdded did old new deeds × AreDeedsOf at deeds × AreBegunBy now deeds × IsTried at bounds now address came deeds

abbrev pub IfTried : {S W : Type 0} → Tried S W → (S → Type 0) → Type 0
IfTried (tried.Made stream) P = P stream
IfTried (tried.Waits stream) P = P stream
IfTried (tried.Missed why) P = ⊤

-- one address more was missed, for this reason
abbrev pub tries_past : {A W : Type 0} → Missed W → Tries A W → Tries A W
tries_past why tries = record {
  addresses = tries.addresses;
  missed = tries.missed + 1;
  first = if nat_eq tries.missed 0 then why else tries.first;
  bounds = tries.bounds;
}
