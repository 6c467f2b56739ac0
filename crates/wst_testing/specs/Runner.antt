-- What is run one after the other, each over a new end: where it comes from, and what a sink is told of it.
-- `gave start now items` says that a source gave, from the first state to the second one, just these items;
-- `heard start now told next` that a sink was told, from the first state to the second one, of just these and what came
-- of them, and of the one that runs next, if one was begun.
use Rattle.std.specs.Prelude.{◌≡◌, ⊤, ℕ, ◌+◌, ◌<◌, ◌^◌, Bool, true, false, List, [], ◌∷◌, ◌++◌, Option, Some, None}
use Rattle.std.specs.Prelude.{Result, Ok, Err, MatchResult, length, map}
use Rattle.std.specs.List.{AllByRecursion}
use Rattle.std.specs.Borrow.{Bor}
use Rattle.ws_scripts.specs.Scripts.{CanBeRun}
use Rattle.ws_scripts.specs.declared.script.Case.{Case}
use Rattle.wst_sockets.specs.declared.meeting.Meeting.{Meeting}
use Rattle.wst_testing.specs.declared.runner.RunStop.{RunStop}
use Rattle.wst_testing.specs.declared.runner.RunStop.TheVariants as stop

-- what a source of this kind gave, from one state to another
abbrev pub Giving : Type 0 → Type 0 → Type 1
Giving I S = S → S → List I → Type 0

-- what a sink of this kind was told, from one state to another
abbrev pub Hearing : Type 0 → Type 0 → Type 1
Hearing I K = K → K → List (I × Meeting) → Option I → Type 0

-- that it ended the run then, and why
abbrev pub Stopping : Type 0 → Type 0 → Type 1
Stopping I K = K → K → List (I × Meeting) → RunStop → Type 0

-- ---- one call of a source

-- something was given
abbrev pub HasGiven : {I : Type 0} → Option I → Type 0
HasGiven None = ⊥
HasGiven (Some item) = ⊤

-- Behind what it gave before, of which 64 bits can count one more, it gives this one, whose case can be run, and fewer
-- are left.
abbrev pub GivesNext : {I S : Type 0} → Giving I S → (S → ℕ) → (I → Case) → S → S → Option I → Type 0
GivesNext gave left case_of old new None = ⊥
GivesNext {I} {S} gave left case_of old new (Some item) = CanBeRun (case_of item) × (left new < left old)
    × ((start : S) (items : List I) → gave start old items
    → gave start new (items ++ item ∷ []) × (length items + 1 < 2 ^ 64))

-- it gives the next one; or it has given all
abbrev pub MovesOn : {I S : Type 0} → Giving I S → Giving I S → (S → Option I) → (S → ℕ) → (I → Case) → S → S → Bool
    → Type 0
MovesOn gave gave_all last left case_of old new true = GivesNext gave left case_of old new (last new)
MovesOn {I} {S} gave gave_all last left case_of old new false =
    (start : S) (items : List I) → gave start old items → gave_all start new items

-- whatever it gave until the first state, it gave until the second
abbrev pub StaysGiving : {I S : Type 0} → Giving I S → S → S → Type 0
StaysGiving {I} {S} gave old new = (start : S) (items : List I) → gave start old items → gave start new items

-- ---- one call of a sink

-- it was told of some, so few that 64 bits can count one more, and none of them runs
abbrev pub AwaitsCase : {I K : Type 0} → Hearing I K → K → Type 0
AwaitsCase {I} {K} heard now =
    (start : K) × (told : List (I × Meeting)) × (length told + 1 < 2 ^ 64) × heard start now told None

-- and this one runs
abbrev pub AwaitsOutcome : {I K : Type 0} → Hearing I K → K → I → Type 0
AwaitsOutcome {I} {K} heard now item =
    (start : K) × (told : List (I × Meeting)) × (length told + 1 < 2 ^ 64) × heard start now told (Some item)

-- behind what it was told before, it is told that this one runs next
abbrev pub HearsCase : {I K : Type 0} → Hearing I K → K → K → I → Type 0
HearsCase {I} {K} heard old new item = (start : K) (told : List (I × Meeting)) → heard start old told None
    → heard start new told (Some item)

-- behind what it was told before, it is told what came of the one that runs
abbrev pub HearsOutcome : {I K : Type 0} → Hearing I K → K → K → I → Meeting → Type 0
HearsOutcome {I} {K} heard old new item meeting = (start : K) (told : List (I × Meeting))
    → heard start old told (Some item) → heard start new (told ++ (item, meeting) ∷ []) None

-- the same, and it ends the run
abbrev pub EndsRunBy : {I K : Type 0} → Hearing I K → Stopping I K → K → K → I → Meeting → RunStop → Type 0
EndsRunBy {I} {K} heard stopped old new item meeting why = (start : K) (told : List (I × Meeting))
    → heard start old told (Some item) → stopped start new (told ++ (item, meeting) ∷ []) why

-- it is told what came of the one that runs; and may end the run; or memory runs out, and it is as before
abbrev pub HearsMeeting : {I K : Type 0} → Hearing I K → Stopping I K → K → K → I → Meeting
    → Result (Unit {0}) RunStop → Type 0
HearsMeeting heard stopped old new item meeting (Ok _) = HearsOutcome heard old new item meeting
HearsMeeting heard stopped old new item meeting (Err stop.NoMemory) = new ≡ old
HearsMeeting heard stopped old new item meeting (Err why) = EndsRunBy heard stopped old new item meeting why

-- ---- a run

-- what was run
abbrev pub items_of : {I : Type 0} → List (I × Meeting) → List I
items_of came = map (λ run. run.0) came

-- this came of the case of each, over an end of its own
abbrev pub CameOf : {I : Type 0} → (I → Case) → (Case → Meeting → Type 0) → List (I × Meeting) → Type 0
CameOf case_of Meets came = AllByRecursion (λ run. Meets (case_of run.0) run.1) came

-- all that the source gives were run, and the sink was told
pub record RunsToTheEnd {I S K : Type 0} (case_of : I → Case) (Meets : Case → Meeting → Type 0) (gave_all : Giving I S)
    (heard : Hearing I K) (source : S) (old new : K) : Type 0 where
  pub came : List (I × Meeting)
  pub met : CameOf case_of Meets came
  pub last : S
  pub given : gave_all source last (items_of came)
  pub told : heard old new came None

-- this one was given behind those that were run; or none needs to be
abbrev pub IsGivenNext : {I : Type 0} → List I → Option I → Type 0
IsGivenNext more None = ⊤
IsGivenNext more (Some item) = more ≡ item ∷ []

-- memory ran out behind these, where one more may have been given and begun; or the sink ended the run with the last of
-- them
abbrev pub StopsBecause : {I S K : Type 0} → Giving I S → Hearing I K → Stopping I K → S → S → K → K
    → List (I × Meeting) → RunStop → Type 0
StopsBecause {I} gave heard stopped source last old new came stop.NoMemory = (more : List I) × (next : Option I)
    × gave source last (items_of came ++ more) × IsGivenNext more next × heard old new came next
StopsBecause gave heard stopped source last old new came why =
    gave source last (items_of came) × stopped old new came why

-- the first ones were run, and the sink was told, and why no further one was run
pub record StopsRun {I S K : Type 0} (case_of : I → Case) (Meets : Case → Meeting → Type 0) (gave : Giving I S)
    (heard : Hearing I K) (stopped : Stopping I K) (source : S) (old new : K) (why : RunStop) : Type 0 where
  pub came : List (I × Meeting)
  pub met : CameOf case_of Meets came
  pub last : S
  pub stops : StopsBecause gave heard stopped source last old new came why

-- how a run of what a source gives ended, over ends that meet cases so, and what the sink was told of it
abbrev pub RunsEach : {I S K : Type 0} → (I → Case) → (Case → Meeting → Type 0) → Giving I S → Giving I S
    → Hearing I K → Stopping I K → S → K → K → Result (Unit {0}) RunStop → Type 0
RunsEach case_of Meets gave gave_all heard stopped source old new ended =
    MatchResult ended (λ _. RunsToTheEnd case_of Meets gave_all heard source old new)
    (λ why. StopsRun case_of Meets gave heard stopped source old new why)

-- ---- the cases of a list

-- the one that was given last, and those behind it
pub record ListValue : Type 0 where
  pub last : Option Case
  pub rest : List Case

abbrev pub last_of : Option (Bor Case) → Option Case
last_of None = None
last_of (Some case) = Some case.now

-- these are to be given, and one more of them can be counted with 64 bits
abbrev pub IsListed : List Case → ListValue → Type 0
IsListed cases listed = (listed.rest ≡ cases) × (length listed.rest + 1 < 2 ^ 64)

-- these were given, and the rest stands behind them
abbrev pub GaveOfList : ListValue → ListValue → List Case → Type 0
GaveOfList start now cases = (start.rest ≡ cases ++ now.rest) × (length start.rest + 1 < 2 ^ 64)

abbrev pub GaveAllOfList : ListValue → List Case → Type 0
GaveAllOfList start cases = start.rest ≡ cases
