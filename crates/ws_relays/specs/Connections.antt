-- One connection between a client and the server: what the streams of both its ends did, what was told of that, and how
-- it ended.
use Rattle.std.specs.Prelude.{◌≡◌, ◌⊎◌, ℕ, ◌≤◌, ⊤, Bool, true, false, if◌then◌else◌, List, [], ◌∷◌, ◌++◌, length}
use Rattle.std.specs.Prelude.{Option, Some, None}
use Rattle.std.specs.List.{flat_map}
use Rattle.ws_wire.specs.declared.role.Role.{Role}
use Rattle.ws_wire.specs.declared.role.Role.TheVariants.{Client, Server}
use Rattle.ws_machines.specs.Told.{Told}
use Rattle.ws_machines.specs.Told.Told.{Came, DirectionEnded, Ended, ReadFailed, Taken, WriteFailed}
use Rattle.ws_loops.specs.Deeds.{Deed}
use Rattle.ws_loops.specs.Deeds.Deed.{Did, Emptied, HadNone, TookNone}
use Rattle.ws_networks.specs.Connecting.{Connects}
use Rattle.ws_networks.specs.Networks.{NetworkDeed}
use Rattle.ws_networks.specs.declared.bounds.Bounds.{Bounds}
use Rattle.ws_networks.specs.declared.dialing.Missed.{Missed}
use Rattle.ws_tap.specs.Running.{EndsAt}
use Rattle.ws_tap.specs.Told.{TapTold, CameFrom, EndedBy, EndedTo, TakenBy, ArePassedOn}
use Rattle.ws_tap.specs.Texts.{TellsOfBoth}
use Rattle.ws_tap.specs.declared.tapped.Tapped.{Tapped}
use Rattle.ws_tap.specs.declared.tapping.TapEnd.{TapEnd}
use Rattle.ws_tap.specs.declared.tapping.TapEnd.TheVariants as tap_end
use Rattle.ws_relays.specs.EndPlaces.{stream_told}
use Rattle.ws_relays.specs.declared.relays.RelayEnd.{RelayEnd}
use Rattle.ws_relays.specs.declared.relays.RelayEnd.TheVariants as relay_end

-- ---- what a stream did, as the tap is told of it

-- one thing that a machine is told of the stream of an end
abbrev pub told_of_stream : Role → Told → List TapTold
told_of_stream role (Came bytes) = CameFrom role bytes ∷ []
told_of_stream role Ended = EndedBy role ∷ []
told_of_stream role (Taken bytes) = TakenBy role bytes ∷ []
told_of_stream role DirectionEnded = EndedTo role ∷ []
told_of_stream role _ = []

-- one thing that it did
abbrev pub told_of_deed : Role → Deed → List TapTold
told_of_deed role (Did told) = told_of_stream role told
told_of_deed role (Emptied bytes) = CameFrom role bytes ∷ []
told_of_deed role _ = []

abbrev pub told_of_deeds : Role → List Deed → List TapTold
told_of_deeds role deeds = flat_map (λ deed. told_of_deed role deed) deeds

-- both are the same end
abbrev pub is_same_end : Role → Role → Bool
is_same_end Client Client = true
is_same_end Client Server = false
is_same_end Server Client = false
is_same_end Server Server = true

-- it happened at this end
abbrev pub is_at_end : Role → TapTold → Bool
is_at_end role (CameFrom from bytes) = is_same_end role from
is_at_end role (EndedBy from) = is_same_end role from
is_at_end role (TakenBy to bytes) = is_same_end role to
is_at_end role (EndedTo to) = is_same_end role to

-- of all that was told, what happened at this end, in its order
abbrev pub told_at_end : Role → List TapTold → List TapTold
told_at_end role [] = []
told_at_end role (x ∷ told) = if is_at_end role x then x ∷ told_at_end role told else told_at_end role told

-- This stream had done nothing at first, and then just what was told of its end, and this besides, of which the tap was
-- told nothing.
pub record DidAtEnd {S : Type 0} (did : S → S → List Deed → Type 0) (role : Role) (told rest : List TapTold) (now : S)
    : Type 0 where
  pub first : S
  pub deeds : List Deed
  pub fresh : did first first []
  pub did_all : did first now deeds
  pub all : told_of_deeds role deeds ≡ told_at_end role told ++ rest

-- of all that a machine is told of this, a read or a write has failed last
abbrev pub HasFailedLast : List Deed → Type 0
HasFailedLast deeds = (before : List Told) × ((flat_map stream_told deeds ≡ before ++ ReadFailed ∷ [])
    ⊎ (flat_map stream_told deeds ≡ before ++ WriteFailed ∷ []))

-- the stream of an end did so, and has failed
pub record FailedAtEnd {S : Type 0} (did : S → S → List Deed → Type 0) (role : Role) (told : List TapTold) : Type 0
  where
    pub now : S
    pub end : DidAtEnd did role told [] now
    pub failed : HasFailedLast end.deeds

-- ---- how it ended

-- Where both directions were ended, all that the streams did was told. Where it is broken a read or a write has failed
-- at one end, of which all was told before; of the other one thing more may have happened.
abbrev pub EndsOver : {S : Type 0} → (S → S → List Deed → Type 0) → List TapTold → TapEnd → Type 0
EndsOver {S} did told (tap_end.Ended first) = EndsAt (tap_end.Ended first) told
    × ((client server : S) × DidAtEnd did Client told [] client × DidAtEnd did Server told [] server)
EndsOver {S} did told tap_end.Broken = (role other : Role) × (is_same_end role other ≡ false)
    × FailedAtEnd did role told × ((rest : List TapTold) × (now : S) × (length rest ≤ 1)
    × DidAtEnd did other told rest now)

-- A tapped connection has ended so, and this text tells of it: it follows from what both streams did, whose bytes were
-- passed on.
pub record IsTappedTo {S : Type 0} (did : S → S → List Deed → Type 0) (tapped : Tapped) (text : List ℕ) (end : TapEnd)
    : Type 0 where
  pub told : List TapTold
  pub passed : ArePassedOn told
  pub tells : TellsOfBoth tapped told text
  pub over : EndsOver did told end

-- it goes on, and this text tells of it so far
pub record IsTappedSoFar {S : Type 0} (did : S → S → List Deed → Type 0) (tapped : Tapped) (text : List ℕ) : Type 0
  where
    pub told : List TapTold
    pub passed : ArePassedOn told
    pub tells : TellsOfBoth tapped told text
    pub client : S
    pub server : S
    pub client_rest : List TapTold
    pub server_rest : List TapTold
    pub client_few : length client_rest ≤ 1
    pub server_few : length server_rest ≤ 1
    pub did_client : DidAtEnd did Client told client_rest client
    pub did_server : DidAtEnd did Server told server_rest server

-- without limits
abbrev pub unbound : Bounds
unbound = record { limit = None; until = None }

-- The server has taken no connection: its name has no address, or none of its addresses has taken one for this place;
-- that is what the network did for it.
abbrev pub HasNoServer : {A W : Type 0} → List ℕ → ℕ → List (NetworkDeed A W) → Type 0
HasNoServer {A} {W} server at deeds = (from to : ℕ) × (why : Missed W)
    × Connects at unbound from to server (Some why) deeds

-- one of its addresses has
abbrev pub HasServer : {A W : Type 0} → List ℕ → ℕ → List (NetworkDeed A W) → Type 0
HasServer server at deeds = (from to : ℕ) × Connects at unbound from to server None deeds

-- A connection has ended so: the network did this for it, and this text tells of it.
abbrev pub IsRelayedTo : {A S W : Type 0} → (S → S → List Deed → Type 0) → List ℕ → Tapped → ℕ
    → List (NetworkDeed A W) → List ℕ → RelayEnd → Type 0
IsRelayedTo did server tapped at deeds text relay_end.NoConnection = HasNoServer server at deeds × (text ≡ [])
IsRelayedTo did server tapped at deeds text (relay_end.Tapped end) = HasServer server at deeds
    × IsTappedTo did tapped text end
