-- Cases that are run several at a time over a server at an address: those that were begun and are not told of, the
-- oldest first, and what is told of each.
use Rattle.std.specs.Prelude.{◌≡◌, ℕ, ◌+◌, ◌<◌, ◌≤◌, ◌^◌, ⊤, Bool, true, false, List, [], ◌∷◌, ◌++◌, length, take}
use Rattle.std.specs.Prelude.{Option, None, Some, Result, Ok, Err, slice_get}
use Rattle.ws_loops.specs.Deeds.{Deed}
use Rattle.ws_networks.specs.Bounds.{bounds_from}
use Rattle.ws_connection.specs.Probing.{BeginsProbe, bytes_by_turn}
use Rattle.ws_handshake.specs.Probes.{ProbeGives, ProbeValue, WasProbed, wanted_of}
use Rattle.ws_handshake.specs.declared.probe_end.Probe.{Probe}
use Rattle.ws_scripts.specs.declared.script.Case.{Case}
use Rattle.wst_network.specs.declared.connector.ConnectMiss.{ConnectMiss}
use Rattle.wst_errands.specs.Errands.{ErrandsValue, HasItsPlaces, KeepsLine, IsErrandAt, count_under_way}
use Rattle.wst_errands.specs.declared.errands.Came.{Came}
use Rattle.wst_errands.specs.declared.errands.Came.TheVariants.{Ended, GivenUp, NotMade}
use Rattle.wst_sockets.specs.declared.meeting.ConnectFault.TheVariants.{Failed}
use Rattle.wst_sockets.specs.declared.meeting.Meeting.{Meeting}
use Rattle.wst_sockets.specs.declared.meeting.Meeting.TheVariants.{NoConnection}
use Rattle.wst_testing.specs.Runner.{CameOf, Giving, GivesNext, Hearing, HearsMeeting, Stopping, items_of}
use Rattle.wst_testing.specs.Servers.{AddressValue, limits_of_server, meeting_at, plan_at}
use Rattle.wst_testing.specs.Servers.{reason_of_end, reason_of_miss}
use Rattle.wst_testing.specs.declared.runner.RunStop.{RunStop}
use Rattle.wst_testing.specs.declared.runner.RunStop.TheVariants as stop

-- ---- one case

-- At this place of the line stands a machine that puts this server's request and then runs this case, under this key;
-- it was begun within the server's limits, and has come so far by now.
abbrev pub IsBegunFor : {S A : Type 0} → (S → S → List Deed → Type 0) → AddressValue → List ℕ → Case
    → ErrandsValue ProbeValue A S ConnectMiss Probe → ℕ → ℕ → Type 0
IsBegunFor did server key case errands place now = (start : ProbeValue) × (begun : ℕ)
    × BeginsProbe (plan_at server) (bytes_by_turn case (Some key)) server.request server.budget start
    × IsErrandAt WasProbed (λ (x : ProbeValue). wanted_of x) ProbeGives did errands place start
    (bounds_from (limits_of_server server) begun) begun now

-- what is told of a case of whose machine this came
abbrev pub IsMeetingOf : Came Probe ConnectMiss → Meeting → Type 0
IsMeetingOf (Ended probe how) meeting = meeting ≡ meeting_at probe (reason_of_end how)
IsMeetingOf (NotMade why) meeting = meeting ≡ NoConnection (reason_of_miss why)
IsMeetingOf GivenUp meeting = meeting ≡ NoConnection Failed

-- ---- those that were begun and are not told of

-- none was begun, and so many can be under way at a time
pub record IsNewLine {S A : Type 0} (most : ℕ) (errands : ErrandsValue ProbeValue A S ConnectMiss Probe) : Type 0 where
  pub none : errands.line ≡ []
  pub at_once : errands.at_once ≡ most
  pub places : HasItsPlaces errands

-- each that is kept stands beside its machine, and a place is there for each that may be under way
pub record AreUnderWay {S A I J : Type 0} (did : S → S → List Deed → Type 0) (case_of : I → Case) (kept_item : J → I)
    (server : AddressValue) (key : List ℕ) (errands : ErrandsValue ProbeValue A S ConnectMiss Probe) (items : List J)
    (now : ℕ) : Type 0 where
  pub many : length items ≡ length errands.line
  pub each : (place : ℕ) (item : J) → slice_get items place ≡ Some item
      → IsBegunFor did server key (case_of (kept_item item)) errands place now
  pub places : HasItsPlaces errands
  pub some : 0 < errands.at_once

-- A connection was begun for this machine, within the server's limits, or its name has no address: it stands last, and
-- the others are where they were.
pub record HasConnectedFor {S A : Type 0} (did : S → S → List Deed → Type 0) (server : AddressValue)
    (old new : ErrandsValue ProbeValue A S ConnectMiss Probe) (from to : ℕ) (machine : ProbeValue) : Type 0 where
  pub later : from ≤ to
  pub len : length new.line ≡ length old.line + 1
  pub stands : IsErrandAt WasProbed (λ (x : ProbeValue). wanted_of x) ProbeGives did new (length old.line) machine
      (bounds_from (limits_of_server server) to) to to
  pub others : KeepsLine WasProbed (λ (x : ProbeValue). wanted_of x) ProbeGives did from to old new
  pub more : count_under_way new.line ≤ count_under_way old.line + 1
  pub at_once : new.at_once ≡ old.at_once
  pub places : length new.standings ≡ length old.standings

-- each of the first ones of these was given
abbrev pub GaveEach : {I S : Type 0} → Giving I S → S → List I → Type 0
GaveEach {I} {S} gave source items = (n : ℕ) → n ≤ length items → (last : S) × gave source last (take n items)

-- these were given, and there may be more; or they are all
abbrev pub GaveSo : {I S : Type 0} → Giving I S → Giving I S → S → S → List I → Bool → Type 0
GaveSo gave gave_all source last items true = gave source last items
GaveSo gave gave_all source last items false = gave_all source last items

-- These were run so far, and the sink was told of them, in their order; those that were begun stand behind them in the
-- order of the source, which may have more.
pub record HasRunSoFar {I S K : Type 0} (case_of : I → Case) (Meets : Case → Meeting → Type 0)
    (gave gave_all : Giving I S) (heard : Hearing I K) (source last : S) (start now : K) (items : List I) (more : Bool)
    : Type 0 where
  pub came : List (I × Meeting)
  pub met : CameOf case_of Meets came
  pub given : GaveSo gave gave_all source last (items_of came ++ items) more
  pub gave_each : GaveEach gave source (items_of came ++ items)
  pub few : length came + length items < 2 ^ 64
  pub told : heard start now came None

-- The next one was begun: it stands last; or the source has given all.
abbrev pub BeginsNext : {I S : Type 0} → Giving I S → Giving I S → (S → ℕ) → (I → Case) → S → S → List I → List I → Bool
    → Type 0
BeginsNext {I} {S} gave gave_all left case_of old new before after true = (item : I) × (after ≡ before ++ item ∷ [])
    × GivesNext gave left case_of old new (Some item)
BeginsNext {I} {S} gave gave_all left case_of old new before after false = (after ≡ before) × ((start : S)
    (items : List I) → gave start old items → gave_all start new items)

-- The oldest is told of, with what may come of it over an end of its own; the others move up.
pub record TellsFirst {I K : Type 0} (case_of : I → Case) (Meets : Case → Meeting → Type 0) (heard : Hearing I K)
    (stopped : Stopping I K) (old new : K) (before after : List I) (ended : Result (Unit {0}) RunStop) : Type 0 where
  pub item : I
  pub first : before ≡ item ∷ after
  pub meeting : Meeting
  pub met : Meets (case_of item) meeting
  pub mid : K
  pub begins : (start : K) (told : List (I × Meeting)) → heard start old told None → heard start mid told (Some item)
  pub told : HearsMeeting heard stopped mid new item meeting ended

-- it is the first of these, or none is
abbrev pub IsOldest : {I : Type 0} → List I → Option I → Type 0
IsOldest items None = ⊤
IsOldest [] (Some item) = ⊥
IsOldest (first ∷ items) (Some item) = item ≡ first

-- or memory ran out before: it may have been told that the oldest one runs
abbrev pub LacksMemoryFor : {I K : Type 0} → Hearing I K → K → K → List I → Type 0
LacksMemoryFor {I} {K} heard old new before = (start : K) (told : List (I × Meeting)) → heard start old told None
    → (next : Option I) × IsOldest before next × heard start new told next

-- what came of telling of the oldest
abbrev pub TellsOldest : {I K : Type 0} → (I → Case) → (Case → Meeting → Type 0) → Hearing I K → Stopping I K → K → K
    → List I → List I → Result (Unit {0}) RunStop → Type 0
TellsOldest case_of Meets heard stopped old new before after (Ok done) =
    TellsFirst case_of Meets heard stopped old new before after (Ok done)
TellsOldest case_of Meets heard stopped old new before after (Err stop.NoMemory) =
    LacksMemoryFor heard old new before
TellsOldest case_of Meets heard stopped old new before after (Err why) =
    TellsFirst case_of Meets heard stopped old new before after (Err why)
