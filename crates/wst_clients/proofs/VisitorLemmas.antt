-- Those who come to a listener stay those who are tested, whatever is done with them; who waits for its turn, in which
-- order; and for how long a request is waited for.
use Rattle.std.proofs.Common.{◌≡◌, ◌∙◌, ℕ, true, false, List, [], ◌∷◌, ◌++◌, Option, None, Some, All, ap, append_assoc}
use Rattle.std.proofs.Common.{append-nil, refl, subst, sym}
use Rattle.std.proofs.lemmas.Bool.{false≢true}
use Rattle.std.proofs.lemmas.List.Elements.{All-push}
use Rattle.std.specs.Prelude.{IsTrue, Vec}
use Rattle.std.specs.declared.alloc.Global.{Global}
use Rattle.ws_handshake.specs.declared.admission.AcceptedRequest.{AcceptedRequest}
use Rattle.ws_clients.specs.Clients.{HasBecome}
use Rattle.ws_clients.specs.Talks.{IsAdmission}
use Rattle.ws_clients.specs.declared.clients.Event.{Event}
use Rattle.ws_clients.specs.declared.clients.Event.TheVariants as events
use Rattle.ws_handshake.specs.declared.admission.Admission.{Admission}
use Rattle.ws_handshake.specs.declared.admission.Admission.TheVariants as admission
use Rattle.ws_loops.specs.Deeds.{Deed}
use Rattle.ws_loops.specs.Listeners.{AcceptDeed}
use Rattle.ws_loops.specs.Paces.{has_ended_by}
use Rattle.ws_paths.specs.Paths.{number_to_run}
use Rattle.ws_paths.specs.Standings.{StandingValue}
use Rattle.ws_tester.specs.Following.{TesterValue}
use Rattle.wst_commands.specs.TimeLimits.{is_limited}
use Rattle.wst_commands.specs.declared.time_limit.TimeLimit.{TimeLimit}
use Rattle.wst_commands.specs.declared.time_limit.TimeLimit.TheVariants.{Seconds, Unlimited}
use Rattle.wst_testing.specs.Servers.{DidThese}
use Rattle.wst_commands.specs.TimeLimits.{milliseconds_of}
use Rattle.wst_clients.specs.Turns.{IsAdmitted, IsWhyNone, WaitsOrHears}
use Rattle.wst_clients.specs.Visits.{known_by}
use Rattle.wst_clients.proofs.TurnLemmas.{admitted}
use Rattle.wst_clients.specs.Visitors.{AreTestedBy, AreVisitors, AsksNoCase, HaveWaited, IsEndAskedSo}
use Rattle.wst_clients.specs.Visitors.{PassedOver, StayAll, WaitOn, WaitsBehind, WaitsLast}
use Rattle.wst_clients.specs.Visitors.{WasAccepted, wait_until}
use Rattle.wst_clients.specs.declared.visiting.NoVisit.TheVariants.{Never, TooLate}
use Rattle.wst_clients.specs.declared.visiting.VisitRules.{VisitRules}
use Rattle.wst_clients.specs.declared.visitors.Ending.{Ending}
use Rattle.wst_clients.specs.declared.visitors.Ending.TheVariants.{Answered, Answering, NotAsked}
use Rattle.wst_clients.specs.declared.visitors.Visitors.{Visitors}
use Rattle.wst_clients.specs.declared.visitors.Waiting.{Waiting}

-- ---- that they stay

-- all of these were accepted
abbrev pub AllAccepted : List (List ℕ) → List Waiting → Type 0
AllAccepted known waiting = All (λ (w : Waiting). WasAccepted known w.request) waiting

module _ {M L P E S W : Type 0} (old new : Visitors M L P E S W) where
  -- where others wait, and the end is asked for so
  pub are_by : (known : List (List ℕ)) (wait : Option ℕ) → new.clients.known ≡ old.clients.known → new.wait ≡ old.wait
      → AllAccepted known new.waiting.items → IsEndAskedSo known new.ending
      → AreVisitors known wait old → AreVisitors known wait new
  are_by known wait same_known same_wait waiting ending are = record {
    is_known = same_known ∙ are.is_known;
    is_wait = same_wait ∙ are.is_wait;
    waiting = waiting;
    ending = ending;
  }

  -- where those who wait, and the end, are as they were
  pub same_accepted : (known : List (List ℕ)) → new.waiting ≡ old.waiting → AllAccepted known old.waiting.items
      → AllAccepted known new.waiting.items
  same_accepted known same all = subst (λ (v : Vec Waiting Global). AllAccepted known v.items) (sym same) all

  pub same_end : (known : List (List ℕ)) → new.ending ≡ old.ending → IsEndAskedSo known old.ending
      → IsEndAskedSo known new.ending
  same_end known same asked = subst (λ (e : Ending). IsEndAskedSo known e) (sym same) asked

  pub are_still : (known : List (List ℕ)) (wait : Option ℕ) → StayAll old new → AreVisitors known wait old
      → AreVisitors known wait new
  are_still known wait s are = are_by known wait s.is_known s.is_wait (same_accepted known s.waiting are.waiting)
      (same_end known s.ending are.ending) are

  -- where one more waits
  pub are_more : (known : List (List ℕ)) (wait : Option ℕ) (at : ℕ) (request : AcceptedRequest)
      → new.clients.known ≡ old.clients.known → new.wait ≡ old.wait
      → WaitsLast at request old.waiting.items new.waiting.items → new.ending ≡ old.ending
      → WasAccepted known request → AreVisitors known wait old → AreVisitors known wait new
  are_more known wait at request same_known same_wait is same_ending accepted are =
      are_by known wait same_known same_wait
      (subst (λ (l : List Waiting). AllAccepted known l) (sym is)
      (All-push (λ (w : Waiting). WasAccepted known w.request) old.waiting.items
      (record { at = at; request = request }) are.waiting accepted))
      (same_end known same_ending are.ending) are

-- ---- for how long a request is waited for

-- where the time has come until which one was waited for, they have waited so long
pub waited_by : {M L P E S W : Type 0} (time : P → ℕ) (old new : Visitors M L P E S W) (until : Option ℕ)
    → until ≡ wait_until old.ending old.wait old.since → StayAll old new → has_ended_by until (time new.poller) ≡ true
    → HaveWaited time new
waited_by {M} {L} {P} {E} {S} {W} time old new until is stay ended =
    ap (λ (u : Option ℕ). has_ended_by u (time new.poller))
    (ap (λ (e : Ending). wait_until e new.wait new.since) stay.ending
    ∙ ap (λ (w : Option ℕ). wait_until old.ending w new.since) stay.is_wait
    ∙ ap (λ (s : ℕ). wait_until old.ending old.wait s) stay.since ∙ sym is) ∙ ended

-- without a limit there is no such time
never_until : (ending : Ending) (since : ℕ) → wait_until ending None since ≡ None
never_until NotAsked since = refl
never_until (Answering at) since = refl
never_until Answered since = refl

-- so there is a limit
pub limited_by : (limit : TimeLimit) (ending : Ending) (wait : Option ℕ) (since now : ℕ) → wait ≡ milliseconds_of limit
    → has_ended_by (wait_until ending wait since) now ≡ true → IsTrue (is_limited limit)
limited_by Unlimited ending wait since now none ended =
    absurd (false≢true (sym (ap (λ (u : Option ℕ). has_ended_by u now)
    (ap (λ (w : Option ℕ). wait_until ending w since) none ∙ never_until ending since)) ∙ ended))
limited_by (Seconds seconds) ending wait since now is ended = refl

-- ---- what has happened

module _ {M L P E S W : Type 0} (stream : S → S → List Deed → Type 0) (did : L → L → List (AcceptDeed W) → Type 0)
    (time : P → ℕ) (rules : VisitRules) (old new : Visitors M L P E S W) (until : Option ℕ) (event : Event E W)
    (become : HasBecome stream did (time new.poller) until new.listener new.clients event) (stay : StayAll old new)
    (are : AreTestedBy rules old) where
  -- there is no turn: it is too late, where the listener was asked in vain
  pub late_now : event ≡ events.TooLate → until ≡ wait_until old.ending old.wait old.since
      → IsWhyNone did time rules TooLate new
  late_now is wait =
      let (ended, vain) = subst (λ (e : Event E W). HasBecome stream did (time new.poller) until new.listener
      new.clients e) is become in
      let waited = waited_by time old new until wait stay ended in (
        limited_by rules.wait new.ending new.wait new.since (time new.poller) (stay.is_wait ∙ are.is_wait) waited,
        waited,
        vain,
      )

  -- or none can come any more
  pub deaf_now : (why : W) → event ≡ events.Deaf why → IsWhyNone did time rules Never new
  deaf_now why is = (
    why,
    subst (λ (e : Event E W). HasBecome stream did (time new.poller) until new.listener
        new.clients e) is become,
  )

  -- a request was decided
  pub decided_now : (at : ℕ) (came : Admission) → event ≡ events.Decided at came
      → IsAdmission DidThese (known_by rules) came
  decided_now at came is = admitted stream (known_by rules) came
      (subst (λ (names : List (List ℕ)). IsAdmission stream names came) (stay.is_known ∙ are.is_known)
      (subst (λ (e : Event E W). HasBecome stream did (time new.poller) until new.listener new.clients e) is become))

-- ---- the order of arrival

module _ (rules : VisitRules) (standing : StandingValue) where
  -- one more was passed over
  pub over_more : (all left : List Waiting) (first : Waiting) (next : List Waiting)
      → PassedOver rules standing all left → left ≡ first ∷ next → AsksNoCase rules standing first
      → PassedOver rules standing all next
  over_more all left first next (passed, each, is) same asks = (
    passed ++ first ∷ [],
    All-push (AsksNoCase rules standing) passed first each asks,
    is ∙ ap (λ (l : List Waiting). passed ++ l) same ∙ sym (append_assoc passed (first ∷ []) next),
  )

  -- those who are left are these
  pub over_same : (all left other : List Waiting) → PassedOver rules standing all left → left ≡ other
      → PassedOver rules standing all other
  over_same all left other over same = subst (λ (l : List Waiting). PassedOver rules standing all l) same over

-- those who wait are as they were
pub waits_same : (old new : Vec Waiting Global) → new ≡ old → WaitOn old.items new.items
waits_same old new same = ([], ap (λ (v : Vec Waiting Global). v.items) same ∙ sym (append-nil old.items))

pub waits_then : (a b c : List Waiting) → WaitOn a b → WaitOn b c → WaitOn a c
waits_then a b c (one, is) (other, next) =
    (one ++ other, next ∙ (ap (λ (l : List Waiting). l ++ other) is ∙ append_assoc a one other))

waits_behind : (ending : Ending) (at : ℕ) (request : AcceptedRequest) (old new : List Waiting)
    → WaitsBehind ending at request old new → WaitOn old new
waits_behind NotAsked at request old new is = (record { at = at; request = request } ∷ [], is)
waits_behind (Answering other) at request old new same = ([], same ∙ sym (append-nil old))
waits_behind Answered at request old new same = ([], same ∙ sym (append-nil old))

-- and one who was admitted may wait behind them
pub waits_admitted : {L P E S W : Type 0} (did : S → S → List Deed → Type 0) (rules : VisitRules)
    (standing : StandingValue) (at : ℕ) (came : Admission) (old new : Visitors TesterValue L P E S W)
    → IsAdmitted did rules standing at came old new → WaitOn old.waiting.items new.waiting.items
waits_admitted {L} {P} {E} {S} {W} did rules standing at (admission.Accepted request) old new (purpose, asks, taken) =
    by (number_to_run purpose) taken
  where
    by : (number : Option ℕ) → WaitsOrHears did rules standing purpose number at request old new
        → WaitOn old.waiting.items new.waiting.items
    by None (same, asked, there) = ([], same ∙ sym (append-nil old.waiting.items))
    by (Some number) waits = waits_behind old.ending at request old.waiting.items new.waiting.items waits
waits_admitted did rules standing at (admission.Refused fault) old new same =
    ([], same ∙ sym (append-nil old.waiting.items))
waits_admitted did rules standing at admission.Lost old new same = ([], same ∙ sym (append-nil old.waiting.items))
