-- Beside the place of each who waits the stream is held from which its request was read, whatever is done with others.
use Rattle.std.proofs.Common.{◌≡◌, ◌∙◌, ℕ, List, [], ◌∷◌, ◌++◌, Option, None, Some, All, ap, refl, subst}
use Rattle.std.proofs.Common.{◌⊎◌, Err, IfOk, Ok, OnOk, Result, inl, inr, sym}
use Rattle.std.specs.Prelude.{Vec, slice_set}
use Rattle.std.specs.declared.alloc.Global.{Global}
use Rattle.std.proofs.lemmas.Option.{same_Some}
use Rattle.std.proofs.lemmas.List.Elements.{All-head, All-nil, All-push, All-tail}
use Rattle.ws_clients.specs.Clients.{ClientsValue, HoldsBehind, IsHeldAt, IsNewlyHeld, StayHeld}
use Rattle.ws_clients.specs.declared.clients.Event.{Event}
use Rattle.ws_clients.specs.declared.clients.Event.TheVariants as events
use Rattle.ws_handshake.specs.declared.admission.AcceptedRequest.{AcceptedRequest}
use Rattle.ws_handshake.specs.declared.admission.Admission.{Admission}
use Rattle.ws_handshake.specs.declared.admission.Admission.TheVariants as admission
use Rattle.ws_loops.proofs.PlaceLemmas.{get_set_other}
use Rattle.ws_loops.specs.Deeds.{Deed, all_done, all_told}
use Rattle.ws_paths.specs.Standings.{StandingValue}
use Rattle.ws_paths.specs.declared.purpose.Purpose.{Purpose}
use Rattle.ws_scripts.specs.declared.script.Case.{Case}
use Rattle.ws_scripts.specs.declared.transcript.Transcript.{Transcript}
use Rattle.ws_tester.specs.Following.{TesterValue}
use Rattle.ws_tester.specs.RunStates.{RunState}
use Rattle.wst_clients.specs.Turns.{IsPlayedTo, IsTurnOf, RunsFrom, RunsThere}
use Rattle.wst_clients.specs.Visitors.{AreApart, AreHeld, IsAcceptedAt, IsDecidedAt, NobodyAt, StayAll, StayHeldBut}
use Rattle.wst_clients.specs.Visitors.{StayHeldWith, WaitsBehind, WaitsLast}
use Rattle.wst_clients.specs.Visits.{BeginsScript, IsRunOver, case_for, known_by, visit_plan}
use Rattle.wst_clients.specs.declared.visiting.VisitRules.{VisitRules}
use Rattle.wst_clients.specs.declared.visitors.Ending.{Ending}
use Rattle.wst_clients.specs.declared.visitors.Ending.TheVariants.{Answered, Answering}
use Rattle.wst_clients.specs.declared.visitors.Visitors.{Visitors}
use Rattle.wst_clients.specs.declared.visitors.Waiting.{Waiting}
use Rattle.wst_clients.proofs.TurnLemmas.{did_these}

-- what holds of each way in which something went well
pub both_ok : {A E : Type 0} (done : Result A E) (P Q : Type 0) → OnOk done P → OnOk done Q
    → IfOk done (λ value. P × Q)
both_ok (Ok value) P Q p q = (p, q)
both_ok (Err fault) P Q p q = tt

-- each of these is held so
abbrev pub EachHeld : {S : Type 0} → (S → S → List Deed → Type 0) → List (List ℕ) → List (Option S) → List Waiting
    → Type 0
EachHeld did known held waiting = All (λ (w : Waiting). IsAcceptedAt did known held w.at w.request) waiting

module _ {S : Type 0} (did : S → S → List Deed → Type 0) (known : List (List ℕ)) (held : List (Option S)) where
  -- none of them waits in a place beside which nothing is held
  pub nobody_by : (at : ℕ) (waiting : List Waiting) → ((stream : S) → IsHeldAt held at stream → ⊥)
      → EachHeld did known held waiting → NobodyAt at waiting
  nobody_by at waiting free each = λ k d less same.
      let (is, there) = each k d less in
      free is.last (subst (λ (i : ℕ). IsHeldAt held i is.last) same there)

  -- they are where what is held beside another place is taken out
  pub each_without : (at : ℕ) (waiting : List Waiting) → NobodyAt at waiting → EachHeld did known held waiting
      → EachHeld did known (slice_set held at None) waiting
  each_without at waiting nobody each = λ k d less.
      let (is, there) = each k d less in
      (is, get_set_other held at _ None (nobody k d less) ∙ there)

  -- and where more is held
  pub each_more : (after : List (Option S)) (waiting : List Waiting) → StayHeld held after
      → EachHeld did known held waiting → EachHeld did known after waiting
  each_more after waiting stay each = λ k d less.
      let (is, there) = each k d less in
      (is, stay _ is.last there)

-- one more waits apart
apart_more : (waiting : List Waiting) (w : Waiting) → NobodyAt w.at waiting → AreApart waiting
    → AreApart (waiting ++ w ∷ [])
apart_more [] w nobody apart = (All-nil (λ (v : Waiting). v.at ≡ w.at → ⊥), tt)
apart_more (x ∷ waiting) w nobody (far, apart) = (
  All-push (λ (v : Waiting). v.at ≡ x.at → ⊥) waiting w far
      (λ same. All-head (λ (v : Waiting). v.at ≡ w.at → ⊥) x waiting nobody (sym same)),
  apart_more waiting w (All-tail (λ (v : Waiting). v.at ≡ w.at → ⊥) x waiting nobody) apart,
)

module _ {M L P E S W : Type 0} (did : S → S → List Deed → Type 0) (old new : Visitors M L P E S W) where
  held_by : new.clients.known ≡ old.clients.known → new.waiting ≡ old.waiting
      → EachHeld did old.clients.known new.clients.held old.waiting.items → AreHeld did old → AreHeld did new
  held_by known waiting each are = record {
    each = subst (λ (v : Vec Waiting Global). EachHeld did new.clients.known new.clients.held v.items) (sym waiting)
        (subst (λ (names : List (List ℕ)). EachHeld did names new.clients.held old.waiting.items) (sym known) each);
    apart = subst (λ (v : Vec Waiting Global). AreApart v.items) (sym waiting) are.apart;
  }

  -- where something has happened
  pub held_next : StayAll old new → StayHeld old.clients.held new.clients.held → AreHeld did old → AreHeld did new
  held_next stay held are = held_by stay.is_known stay.waiting
      (each_more did old.clients.known old.clients.held new.clients.held old.waiting.items held are.each) are

  -- where nothing has
  pub held_same : new.clients ≡ old.clients → new.waiting ≡ old.waiting → AreHeld did old → AreHeld did new
  held_same same waiting are = held_by (ap (λ (x : ClientsValue M S). x.known) same) waiting
      (subst (λ (held : List (Option S)). EachHeld did old.clients.known held old.waiting.items)
      (sym (ap (λ (x : ClientsValue M S). x.held) same)) are.each) are

  -- where this one is played to, or left
  pub held_without : (at : ℕ) → new.clients.held ≡ slice_set old.clients.held at None
      → new.clients.known ≡ old.clients.known → new.waiting ≡ old.waiting → StayHeldBut did at old new
  held_without at held known waiting nobody are = held_by known waiting
      (subst (λ (now : List (Option S)). EachHeld did old.clients.known now old.waiting.items) (sym held)
      (each_without did old.clients.known old.clients.held at old.waiting.items nobody are.each)) are

  -- where one more waits
  pub held_more : (at : ℕ) (request : AcceptedRequest) → new.clients ≡ old.clients
      → WaitsLast at request old.waiting.items new.waiting.items
      → StayHeldWith did at (admission.Accepted request) old new
  held_more at request same last nobody accepted are = record {
    each = subst (λ (x : ClientsValue M S). EachHeld did x.known x.held new.waiting.items) (sym same)
        (subst (λ (l : List Waiting). EachHeld did old.clients.known old.clients.held l) (sym last)
        (All-push (λ (w : Waiting). IsAcceptedAt did old.clients.known old.clients.held w.at w.request)
        old.waiting.items (record { at = at; request = request }) are.each accepted));
    apart = subst (λ (l : List Waiting). AreApart l) (sym last)
        (apart_more old.waiting.items (record { at = at; request = request }) nobody are.apart);
  }

  -- where the first of them waits no longer: it is held where it waited, and no other waits there
  pub held_first : (first : Waiting) → old.waiting.items ≡ first ∷ new.waiting.items → new.clients ≡ old.clients
      → AreHeld did old → AreHeld did new × NobodyAt first.at new.waiting.items
      × IsAcceptedAt did new.clients.known new.clients.held first.at first.request
  held_first first is same are =
      let each = subst (λ (x : ClientsValue M S). EachHeld did x.known x.held (first ∷ new.waiting.items)) (sym same)
      (subst (λ (l : List Waiting). EachHeld did old.clients.known old.clients.held l) is are.each) in
      let (far, apart) = subst (λ (l : List Waiting). AreApart l) is are.apart in (
        record {
          each = All-tail (λ (w : Waiting). IsAcceptedAt did new.clients.known new.clients.held w.at w.request) first
              new.waiting.items each;
          apart = apart;
        },
        far,
        All-head (λ (w : Waiting). IsAcceptedAt did new.clients.known new.clients.held w.at w.request) first
            new.waiting.items each,
      )

-- ---- what comes of a request

-- who comes behind the end of the run doesn't wait
pub waits_no_more : (ending : Ending) (at : ℕ) (request : AcceptedRequest) (old new : List Waiting)
    → ((other : ℕ) × (ending ≡ Answering other)) ⊎ (ending ≡ Answered) → new ≡ old
    → WaitsBehind ending at request old new
waits_no_more ending at request old new (inl (other, is)) same =
    subst (λ (e : Ending). WaitsBehind e at request old new) (sym is) same
waits_no_more ending at request old new (inr is) same =
    subst (λ (e : Ending). WaitsBehind e at request old new) (sym is) same

module _ {M L P E S W : Type 0} (did : S → S → List Deed → Type 0) (old mid last new : Visitors M L P E S W)
    (at : ℕ) (same : mid.clients ≡ old.clients) (waiting : mid.waiting ≡ old.waiting) where
  nobody_still : NobodyAt at old.waiting.items → NobodyAt at mid.waiting.items
  nobody_still nobody = subst (λ (v : Vec Waiting Global). NobodyAt at v.items) (sym waiting) nobody

  -- behind what changes nothing
  pub with_after : (came : Admission) → StayHeldWith did at came mid new → StayHeldWith did at came old new
  with_after came keeps nobody decided are = keeps (nobody_still nobody)
      (subst (λ (x : ClientsValue M S). IsDecidedAt did x.known x.held at came) (sym same) decided)
      (held_same did old mid same waiting are)

  -- and before it, where its client is played to, or left
  pub with_but : (came : Admission) → StayHeldBut did at mid last → new.clients ≡ last.clients
      → new.waiting ≡ last.waiting → StayHeldWith did at came old new
  with_but came keeps same_last waiting_last nobody decided are = held_same did last new same_last waiting_last
      (keeps (nobody_still nobody) (held_same did old mid same waiting are))

-- ---- what has happened

module _ {M L P E S W : Type 0} (did : S → S → List Deed → Type 0) (old mid new : Visitors M L P E S W)
    (event : Event E W) (stay : StayAll old mid) (held : StayHeld old.clients.held mid.clients.held)
    (fresh : IsNewlyHeld old.clients.held event) (are : AreHeld did old) where
  -- none of those who wait does so where it has
  nobody_told : (at : ℕ) → ((stream : S) → IsHeldAt old.clients.held at stream → ⊥)
      → NobodyAt at mid.waiting.items
  nobody_told at free = subst (λ (v : Vec Waiting Global). NobodyAt at v.items) (sym stay.waiting)
      (nobody_by did old.clients.known old.clients.held at old.waiting.items free are.each)

  -- a request was decided, and is admitted
  pub held_decided : (at : ℕ) (came : Admission) → event ≡ events.Decided at came
      → HoldsBehind did mid.clients.known mid.clients.held event → StayHeldWith did at came mid new → AreHeld did new
  held_decided at came is holds keeps = keeps
      (nobody_told at (subst (λ (e : Event E W). IsNewlyHeld old.clients.held e) is fresh))
      (subst (λ (e : Event E W). HoldsBehind did mid.clients.known mid.clients.held e) is holds)
      (held_next did old mid stay held are)

  -- what was played has ended, and its client is left
  pub held_played : (at : ℕ) (end : E) → event ≡ events.Played at end → StayHeldBut did at mid new → AreHeld did new
  held_played at end is keeps = keeps
      (nobody_told at (subst (λ (e : Event E W). IsNewlyHeld old.clients.held e) is fresh))
      (held_next did old mid stay held are)

  -- or memory ran out for it
  pub held_gone : (at : ℕ) (number : Option ℕ) → event ≡ events.Gone at number → StayHeldBut did at mid new
      → AreHeld did new
  held_gone at number is keeps = keeps
      (nobody_told at (subst (λ (e : Event E W). IsNewlyHeld old.clients.held e) is fresh))
      (held_next did old mid stay held are)

-- ---- a case that is run

-- a run over the stream that was held is one over some stream
pub over_there : {S : Type 0} (did : S → S → List Deed → Type 0) (held : List (Option S)) (at : ℕ) (start : RunState)
    (transcript : Transcript) → RunsThere did held at start transcript → IsRunOver start transcript
over_there did held at start transcript (stream, there, (last, happened, recorded, done)) = record {
  happened = happened;
  told = all_told happened;
  is_told = refl;
  recorded = recorded;
  before = [];
  last = all_done happened;
  done = did_these did stream last happened done;
}

-- it was the turn of who asked for it: its case was run over the stream from which its request was read
pub played_to : {L P E S W : Type 0} (did : S → S → List Deed → Type 0) (rules : VisitRules)
    (standing : StandingValue) (at : ℕ) (purpose : Purpose) (first : List ℕ) (v : Visitors TesterValue L P E S W)
    (transcript : Transcript) (case : Case) (start : RunState) → v.clients.known ≡ known_by rules
    → IsTurnOf did rules standing at purpose first v → case_for rules.cases.now purpose ≡ Some case
    → BeginsScript (visit_plan rules) rules.budget case first start
    → RunsThere did v.clients.held at start transcript → IsPlayedTo did rules standing purpose transcript
played_to {L} {P} {E} {S} {W} did rules standing at purpose first v transcript case start known turn is begins
    (stream, there, runs) =
    let (accepted, held) = subst (λ (names : List (List ℕ)). IsAcceptedAt did names v.clients.held at turn.request)
    known turn.accepted in record {
      request = turn.request;
      accepted = accepted;
      asks = turn.asks;
      case = case;
      is_case = is;
      start = start;
      begins = subst (λ (l : List ℕ). BeginsScript (visit_plan rules) rules.budget case l start) (sym turn.behind)
          begins;
      runs = subst (λ (s : S). RunsFrom did s start transcript)
          (same_Some stream accepted.last (same_Some (Some stream) (Some accepted.last) (sym there ∙ held))) runs;
    }
