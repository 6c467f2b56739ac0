-- Those who come to a listener to be tested: who waits for its turn, and what stays while they are served.
use Rattle.std.specs.Prelude.{◌≡◌, ◌==◌, ℕ, ⊤, true, List, [], ◌∷◌, ◌++◌, Option, None, Some, codes}
use Rattle.std.specs.Prelude.{if◌then◌else◌, length}
use Rattle.std.specs.List.{All}
use Rattle.ws_loops.specs.Deeds.{Deed}
use Rattle.ws_loops.specs.Paces.{has_ended_by, passes_at}
use Rattle.ws_machines.specs.Told.{Told}
use Rattle.ws_clients.specs.Clients.{IsHeldAt, KeepsPlays}
use Rattle.ws_clients.specs.Talks.{IsAdmission}
use Rattle.ws_handshake.specs.declared.admission.AcceptedRequest.{AcceptedRequest}
use Rattle.ws_handshake.specs.declared.admission.Admission.{Admission}
use Rattle.ws_handshake.specs.declared.admission.Admission.TheVariants as admission
use Rattle.ws_paths.specs.Paths.{IsPlaceNamed, IsPurpose, number_to_run, place_of}
use Rattle.ws_paths.specs.Standings.{StandingValue}
use Rattle.ws_paths.specs.Telling.{IsToldBy}
use Rattle.ws_paths.specs.declared.purpose.Purpose.{Purpose}
use Rattle.ws_paths.specs.declared.purpose.Purpose.TheVariants.{CaseCount, CaseInfo, CaseStatus, NextCase, NoCase}
use Rattle.ws_paths.specs.declared.purpose.Purpose.TheVariants.{RunCase, UpdateReports}
use Rattle.ws_scripts.specs.declared.script.Case.{Case}
use Rattle.wst_testing.specs.Servers.{DidThese}
use Rattle.wst_commands.specs.TimeLimits.{milliseconds_of}
use Rattle.wst_clients.specs.Visits.{known_by}
use Rattle.wst_clients.specs.declared.visiting.VisitRules.{VisitRules}
use Rattle.wst_clients.specs.declared.visitors.Ending.{Ending}
use Rattle.wst_clients.specs.declared.visitors.Ending.TheVariants.{Answered, Answering, NotAsked}
use Rattle.wst_clients.specs.declared.visitors.Visitors.{Visitors}
use Rattle.wst_clients.specs.declared.visitors.Waiting.{Waiting}

-- a request was accepted, where these subprotocols are known
abbrev pub WasAccepted : List (List ℕ) → AcceptedRequest → Type 0
WasAccepted known request = IsAdmission DidThese known (admission.Accepted request)

-- one was that asks for the end of the run, and it is answered by a script of no text
abbrev pub WasEndAsked : List (List ℕ) → Type 0
WasEndAsked known = (request : AcceptedRequest) × WasAccepted known request
    × IsPlaceNamed (codes "/updateReports") (place_of request.path.items) × ((script : Case) × IsToldBy None script)

abbrev pub IsEndAskedSo : List (List ℕ) → Ending → Type 0
IsEndAskedSo known NotAsked = ⊤
IsEndAskedSo known (Answering at) = WasEndAsked known
IsEndAskedSo known Answered = WasEndAsked known

-- These subprotocols are known, and so long a request is waited for. The request of each who waits was accepted; and
-- the end of the run is asked for only by one that was.
pub record AreVisitors {M L P E S W : Type 0} (known : List (List ℕ)) (wait : Option ℕ) (v : Visitors M L P E S W)
    : Type 0 where
  pub is_known : v.clients.known ≡ known
  pub is_wait : v.wait ≡ wait
  pub waiting : All (λ (w : Waiting). WasAccepted known w.request) v.waiting.items
  pub ending : IsEndAskedSo known v.ending

-- so they are those that are tested by these rules
abbrev pub AreTestedBy : {M L P E S W : Type 0} → VisitRules → Visitors M L P E S W → Type 0
AreTestedBy rules v = AreVisitors (known_by rules) (milliseconds_of rules.wait) v

-- where this holds of the subprotocols that are known, those who are tested by whatever rules still are
abbrev pub StayWhere : {M L P E S W : Type 0} → (List (List ℕ) → Type 0) → Visitors M L P E S W → Visitors M L P E S W
    → Type 0
StayWhere Where old new =
    (known : List (List ℕ)) (wait : Option ℕ) → Where known → AreVisitors known wait old → AreVisitors known wait new

-- Those who are tested by whatever rules still are, with the same limits, and their listener is as it was.
pub record StayVisitors {M L P E S W : Type 0} (old new : Visitors M L P E S W) : Type 0 where
  pub is_known : new.clients.known ≡ old.clients.known
  pub limits : new.clients.limits ≡ old.clients.limits
  pub is_wait : new.wait ≡ old.wait
  pub listener : new.listener ≡ old.listener
  pub stay : (known : List (List ℕ)) (wait : Option ℕ) → AreVisitors known wait old → AreVisitors known wait new

-- they do, and where they wait, and what they wait for, and since when, is as it was
pub record StayAll {M L P E S W : Type 0} (old new : Visitors M L P E S W) : Type 0 where
  pub is_known : new.clients.known ≡ old.clients.known
  pub limits : new.clients.limits ≡ old.clients.limits
  pub is_wait : new.wait ≡ old.wait
  pub since : new.since ≡ old.since
  pub waiting : new.waiting ≡ old.waiting
  pub ending : new.ending ≡ old.ending

-- ---- for how long a request is waited for

-- until this time; where the end of the run was asked for, no request is waited for, and there is no such time
abbrev pub wait_until : Ending → Option ℕ → ℕ → Option ℕ
wait_until NotAsked wait since = passes_at wait since
wait_until (Answering at) wait since = None
wait_until Answered wait since = None

-- the poller says that it has come
abbrev pub HaveWaited : {M L P E S W : Type 0} → (P → ℕ) → Visitors M L P E S W → Type 0
HaveWaited time v = has_ended_by (wait_until v.ending v.wait v.since) (time v.poller) ≡ true

-- ---- the order of arrival

-- who waits, and how far the end of the run has come, is as it was
abbrev pub KeepsQueue : {M L P E S W : Type 0} → Visitors M L P E S W → Visitors M L P E S W → Type 0
KeepsQueue old new = (new.waiting ≡ old.waiting) × (new.ending ≡ old.ending)

-- this one waits behind the others
abbrev pub WaitsLast : ℕ → AcceptedRequest → List Waiting → List Waiting → Type 0
WaitsLast at request old new = new ≡ old ++ record { at = at; request = request } ∷ []

-- so it does, if the end of the run wasn't asked for before: else they are as they were
abbrev pub WaitsBehind : Ending → ℕ → AcceptedRequest → List Waiting → List Waiting → Type 0
WaitsBehind NotAsked at request old new = WaitsLast at request old new
WaitsBehind (Answering other) at request old new = new ≡ old
WaitsBehind Answered at request old new = new ≡ old

-- those who waited wait on, in their order, and others may behind them
abbrev pub WaitOn : List Waiting → List Waiting → Type 0
WaitOn old new = (more : List Waiting) × (new ≡ old ++ more)

-- what a request asks for while the cases stand so
abbrev pub AsksNow : VisitRules → StandingValue → AcceptedRequest → Purpose → Type 0
AsksNow rules standing request purpose =
    IsPurpose (length rules.cases.now) standing.asked request.path.items purpose

-- by now it asks for no case
abbrev pub AsksNoCase : VisitRules → StandingValue → Waiting → Type 0
AsksNoCase rules standing waiting = (purpose : Purpose) × AsksNow rules standing waiting.request purpose
    × (number_to_run purpose ≡ None)

-- These were passed over, since by now they ask for no case, and others wait still.
abbrev pub PassedOver : VisitRules → StandingValue → List Waiting → List Waiting → Type 0
PassedOver rules standing old left = (passed : List Waiting) × All (AsksNoCase rules standing) passed
    × (old ≡ passed ++ left)

-- ---- the end of the run

-- how far it has come where the client in this place asks for it: the first one that does so is answered before it ends
abbrev pub ending_with : ℕ → Ending → Ending
ending_with at NotAsked = Answering at
ending_with at (Answering other) = Answering other
ending_with at Answered = Answered

-- and by what a client asks for
abbrev pub ending_for : Purpose → ℕ → Ending → Ending
ending_for UpdateReports at ending = ending_with at ending
ending_for CaseCount at ending = ending
ending_for (RunCase number) at ending = ending
ending_for (CaseInfo number) at ending = ending
ending_for (CaseStatus number) at ending = ending
ending_for (NextCase number) at ending = ending
ending_for NoCase at ending = ending

-- how far it has come where the client in this place is left
abbrev pub ending_without : ℕ → Ending → Ending
ending_without at NotAsked = NotAsked
ending_without at (Answering other) = if other == at then Answered else Answering other
ending_without at Answered = Answered

-- and all that is played to them still is
abbrev pub PlayOn : {M L P E S W : Type 0} → (M → M → List Told → Type 0) → (S → S → List Deed → Type 0)
    → Visitors M L P E S W → Visitors M L P E S W → Type 0
PlayOn agrees did old new = KeepsPlays agrees did old.clients.places new.clients.places

-- ---- the streams of those who wait

-- this was decided on a request that was read from the stream which is held beside this place
abbrev pub IsDecidedAt : {S : Type 0} → (S → S → List Deed → Type 0) → List (List ℕ) → List (Option S) → ℕ
    → Admission → Type 0
IsDecidedAt did known held at came = (is : IsAdmission did known came) × IsHeldAt held at is.last

-- it was accepted
abbrev pub IsAcceptedAt : {S : Type 0} → (S → S → List Deed → Type 0) → List (List ℕ) → List (Option S) → ℕ
    → AcceptedRequest → Type 0
IsAcceptedAt did known held at request = IsDecidedAt did known held at (admission.Accepted request)

-- none of these waits in this place
abbrev pub NobodyAt : ℕ → List Waiting → Type 0
NobodyAt at waiting = All (λ (w : Waiting). w.at ≡ at → ⊥) waiting

-- each of them waits in a place of its own
abbrev pub AreApart : List Waiting → Type 0
AreApart [] = ⊤
AreApart (w ∷ waiting) = NobodyAt w.at waiting × AreApart waiting

-- Each who waits does so in a place of its own, and beside it the stream is held from which its request was read.
pub record AreHeld {M L P E S W : Type 0} (did : S → S → List Deed → Type 0) (v : Visitors M L P E S W) : Type 0 where
  pub each : All (λ (w : Waiting). IsAcceptedAt did v.clients.known v.clients.held w.at w.request) v.waiting.items
  pub apart : AreApart v.waiting.items

-- they still are, if none of them waits in this place
abbrev pub StayHeldBut : {M L P E S W : Type 0} → (S → S → List Deed → Type 0) → ℕ → Visitors M L P E S W
    → Visitors M L P E S W → Type 0
StayHeldBut did at old new = NobodyAt at old.waiting.items → AreHeld did old → AreHeld did new

-- and if this was decided there
abbrev pub StayHeldWith : {M L P E S W : Type 0} → (S → S → List Deed → Type 0) → ℕ → Admission
    → Visitors M L P E S W → Visitors M L P E S W → Type 0
StayHeldWith did at came old new = NobodyAt at old.waiting.items
    → IsDecidedAt did old.clients.known old.clients.held at came → AreHeld did old → AreHeld did new
