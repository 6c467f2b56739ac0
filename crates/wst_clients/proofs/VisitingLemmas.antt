-- What comes of a request behind its answer: who asked is told at once, waits, or asked for the end of the run; and how
-- a script begins over its client.
use Rattle.std.proofs.Common.{◌≡◌, ◌∙◌, ℕ, Bool, true, List, [], ◌∷◌, Option, None, Some, ap, map, refl, subst, sym}
use Rattle.std.proofs.lemmas.Option.{same_Some}
use Rattle.std.specs.List.{AllZip, concat}
use Rattle.std.specs.Prelude.{String, Vec}
use Rattle.std.specs.declared.alloc.Global.{Global}
use Rattle.ws_machines.specs.Told.{Told}
use Rattle.ws_loops.specs.Deeds.{Deed, Happened}
use Rattle.ws_loops.specs.declared.places.Place.{Place}
use Rattle.ws_clients.specs.Clients.{ClientsValue, IsHeldAt, IsPlayEnd, IsPlaying, KeepsPlays, PlaysOn, StandsWhere}
use Rattle.ws_clients.specs.declared.clients.Event.{Event}
use Rattle.ws_clients.specs.declared.clients.Event.TheVariants as events
use Rattle.ws_clients.specs.declared.talking.Talk.{Talk}
use Rattle.ws_handshake.specs.declared.admission.AcceptedRequest.{AcceptedRequest}
use Rattle.ws_handshake.specs.declared.admission.Admission.{Admission}
use Rattle.ws_paths.specs.Paths.{number_to_run}
use Rattle.ws_paths.specs.Standings.{StandingValue}
use Rattle.ws_paths.specs.Telling.{IsToldBy}
use Rattle.ws_paths.specs.declared.purpose.Purpose.{Purpose}
use Rattle.ws_paths.specs.declared.purpose.Purpose.TheVariants.{UpdateReports}
use Rattle.ws_scripts.specs.Scripts.{ArePieces, AreTurns, turn_bytes, turns_of}
use Rattle.ws_scripts.specs.declared.script.Case.{Case}
use Rattle.ws_scripts.specs.declared.script.Chop.{Chop}
use Rattle.ws_scripts.specs.declared.script.Step.{Step}
use Rattle.ws_scripts.specs.declared.transcript.Transcript.{Transcript}
use Rattle.ws_tester.specs.Following.{BeginsRun, TesterValue, WasTold}
use Rattle.ws_tester.specs.Outgoings.{HaveBytes, Pieces}
use Rattle.ws_tester.specs.Records.{IsRecorded}
use Rattle.ws_tester.specs.RunStates.{PlanValue, RunState}
use Rattle.wst_clients.specs.Turns.{BeginsTold, IsTakenIn, RunsHeld, RunsOn, RunsThere, TellsThere}
use Rattle.wst_clients.specs.Visitors.{AsksNow, KeepsQueue, WasAccepted, WasEndAsked, ending_for}
use Rattle.wst_clients.specs.Visits.{BeginsScript, IsToldAtOnce, TellsFor, known_by, visit_plan}
use Rattle.wst_clients.specs.declared.visiting.VisitRules.{VisitRules}
use Rattle.wst_clients.specs.declared.visitors.Ending.{Ending}
use Rattle.wst_clients.specs.declared.visitors.Visitors.{Visitors}
use Rattle.wst_clients.specs.declared.visitors.Waiting.{Waiting}
use Rattle.wst_clients.proofs.TurnLemmas.{goes_still, run_ended, still_kept, taken_told}

-- ---- how a script begins

-- the pieces of each turn are its bytes, and none is empty
bytes_are : (chop : Chop) (key : Option (List ℕ)) (turns : List (List Step)) (script : List Pieces)
    → AllZip (ArePieces chop key) turns script → map concat script ≡ map (turn_bytes key) turns
bytes_are chop key [] [] h = refl
bytes_are chop key [] (pieces ∷ script) h = absurd h
bytes_are chop key (steps ∷ turns) [] h = absurd h
bytes_are chop key (steps ∷ turns) (pieces ∷ script) (is, h) = ap (λ (l : List ℕ). l ∷ map concat script) is.joined
    ∙ ap (λ (l : List (List ℕ)). turn_bytes key steps ∷ l) (bytes_are chop key turns script h)

have_bytes : (chop : Chop) (key : Option (List ℕ)) (turns : List (List Step)) (script : List Pieces)
    → AllZip (ArePieces chop key) turns script → HaveBytes script
have_bytes chop key [] [] h = tt
have_bytes chop key [] (pieces ∷ script) h = absurd h
have_bytes chop key (steps ∷ turns) [] h = absurd h
have_bytes chop key (steps ∷ turns) (pieces ∷ script) (is, h) =
    (is.none_empty, have_bytes chop key turns script h)

-- a run of its turns begins so
pub script_begins : (plan : PlanValue) (budget : ℕ) (script : Case) (first : List ℕ) (pieces : List Pieces)
    (start : RunState) → AreTurns script None pieces
    → BeginsRun (record { plan = plan; script = pieces; budget = budget; first = first }) start
    → BeginsScript plan budget script first start
script_begins plan budget script first pieces start are begins = record {
  pieces = pieces;
  bytes = bytes_are script.chop None (turns_of script.steps) pieces are;
  has_bytes = have_bytes script.chop None (turns_of script.steps) pieces are;
  begins = begins;
}

-- ---- what is played

-- one stream is held in a place
one_held : {S : Type 0} (held : List (Option S)) (at : ℕ) (stream other : S) → IsHeldAt held at stream
    → IsHeldAt held at other → other ≡ stream
one_held held at stream other is same = same_Some other stream (same_Some (Some other) (Some stream) (sym same ∙ is))

-- all that is played still is, where nothing was changed before, and it still was since
pub plays_since : {M S : Type 0} (agrees : M → M → List Told → Type 0) (did : S → S → List Deed → Type 0)
    (old mid new : ClientsValue M S) → mid ≡ old → KeepsPlays agrees did mid.places new.places
    → KeepsPlays agrees did old.places new.places
plays_since {M} {S} agrees did old mid new same keeps =
    subst (λ (c : ClientsValue M S). KeepsPlays agrees did c.places new.places) same keeps

-- or nothing was changed since
pub plays_before : {M S : Type 0} (agrees : M → M → List Told → Type 0) (did : S → S → List Deed → Type 0)
    (old mid new : ClientsValue M S) → new ≡ mid → KeepsPlays agrees did old.places mid.places
    → KeepsPlays agrees did old.places new.places
plays_before {M} {S} agrees did old mid new same keeps =
    subst (λ (c : ClientsValue M S). KeepsPlays agrees did old.places c.places) (sym same) keeps

-- ---- what comes of a request that was accepted

module _ {L P E S W : Type 0} (did : S → S → List Deed → Type 0) (rules : VisitRules) (standing : StandingValue)
    (purpose : Purpose) where
  -- its text is begun where a stream is held, if it is played there
  pub tells_there : (first : List ℕ) (at : ℕ) (old new : Visitors TesterValue L P E S W) (script : Case)
      (tester : TesterValue) (begun : Bool) → TellsFor rules standing purpose script
      → BeginsScript (visit_plan rules) rules.budget script first tester.run
      → ((stream : S) → IsHeldAt old.clients.held at stream → begun ≡ true)
      → (begun ≡ true → (stream : S) × IsHeldAt old.clients.held at stream
      × IsPlaying (λ start now told. WasTold start now told) did tester stream [] new.clients.places at)
      → TellsThere did rules standing purpose first at old new
  tells_there first at old new script tester begun tells begins there plays = λ stream held.
      let (other, is, playing) = plays (there stream held) in record {
        script = script;
        tells = tells;
        tester = tester;
        begins = begins;
        plays = subst (λ (s : S). IsPlaying (λ start now told. WasTold start now told) did tester s []
            new.clients.places at) (one_held old.clients.held at stream other held is) playing;
      }

  -- so it is where nothing was changed before and since
  pub tells_over : (first : List ℕ) (at : ℕ) (old mid told new : Visitors TesterValue L P E S W)
      → mid.clients ≡ old.clients → new.clients ≡ told.clients
      → TellsThere did rules standing purpose first at mid told → TellsThere did rules standing purpose first at old new
  tells_over first at old mid told new before since there = λ stream held.
      subst (λ (c : ClientsValue TesterValue S). BeginsTold did rules standing purpose first stream c.places at)
      (sym since) (there stream (subst (λ (c : ClientsValue TesterValue S). IsHeldAt c.held at stream) (sym before)
      held))

  module _ (at : ℕ) (request : AcceptedRequest) (asks : AsksNow rules standing request purpose) where
    -- another one is told at once
    pub taken_answered : (old mid told new : Visitors TesterValue L P E S W) → number_to_run purpose ≡ None
        → mid.clients ≡ old.clients → KeepsQueue old mid → KeepsQueue mid told → new.clients ≡ told.clients
        → new.waiting ≡ told.waiting → new.ending ≡ ending_for purpose at told.ending
        → TellsThere did rules standing purpose request.behind.items at mid told
        → IsTakenIn did rules standing at request old new
    taken_answered old mid told new is before first then since waiting ending there =
        taken_told did rules standing at request old new purpose asks is
        (ap (λ (v : Vec Waiting Global). v.items) (waiting ∙ then.0 ∙ first.0))
        (ending ∙ ap (λ (e : Ending). ending_for purpose at e) (then.1 ∙ first.1))
        (tells_over request.behind.items at old mid told new before since there)

-- who asked for the end of the run was told so by a script of no text
pub asked_end : (rules : VisitRules) (standing : StandingValue) (request : AcceptedRequest) (purpose : Purpose)
    → WasAccepted (known_by rules) request → AsksNow rules standing request purpose
    → ((script : Case) × TellsFor rules standing purpose script) → purpose ≡ UpdateReports
    → WasEndAsked (known_by rules)
asked_end rules standing request purpose accepted asks (script, tells) is =
    let (text, none, told) = subst (λ (p : Purpose). TellsFor rules standing p script) is tells in (
      request,
      accepted,
      subst (λ (p : Purpose). AsksNow rules standing request p) is asks,
      (script, subst (λ (t : Option (String Global)). IsToldBy t script) none told),
    )

-- who asked for it was told so at once
pub told_end : (rules : VisitRules) (standing : StandingValue) → WasEndAsked (known_by rules)
    → IsToldAtOnce rules standing UpdateReports
told_end rules standing (request, accepted, named, (script, told)) = record {
  request = request;
  asked = record { accepted = accepted; is_purpose = named };
  no_case = refl;
  script = script;
  tells = (None, refl, told);
}

-- ---- a case that is run

-- it has begun, over the stream that was held there
pub runs_begun : {S : Type 0} (did : S → S → List Deed → Type 0) (start : TesterValue) (held : List (Option S))
    (places : List (Place (Talk TesterValue) S)) (at : ℕ) → ((stream : S) × IsHeldAt held at stream
    × IsPlaying (λ first now told. WasTold first now told) did start stream [] places at)
    → RunsHeld did held places at start
runs_begun did start held places at (stream, is, plays) = (stream, is, ([], plays))

module _ {S K W : Type 0} (heard : K → K → List (ℕ × List ℕ) → Type 0) (did : S → S → List Deed → Type 0)
    (old mid new : List (Place (Talk TesterValue) S)) (at : ℕ) (old_sink new_sink : K)
    (event : Event Transcript W) (on : PlaysOn heard (λ first now told. WasTold first now told) did
    (λ first told end. IsRecorded first.run told end) old mid old_sink new_sink (Some event))
    (keeps : KeepsPlays (λ first now told. WasTold first now told) did mid new) where
  -- or where something else has happened than its end
  goes_on : ((start : TesterValue) (stream : S) (happened : List Happened)
      → IsPlayEnd did (λ first told end. IsRecorded first.run told end) start stream at happened event → ⊥)
      → RunsOn did old new at None
  goes_on other = λ start stream still. still_kept (λ first now told. WasTold first now told) did start stream mid new
      at keeps (goes_still heard (λ first now told. WasTold first now told) did
      (λ first told end. IsRecorded first.run told end) start stream old mid at old_sink new_sink event on
      (other start stream) still)

  pub on_decided : (place : ℕ) (admission : Admission) → event ≡ events.Decided place admission
      → RunsOn did old new at None
  on_decided place admission is = goes_on (λ start stream happened end. subst (λ (e : Event Transcript W).
      IsPlayEnd did (λ first told end. IsRecorded first.run told end) start stream at happened e) is end)

  pub on_late : event ≡ events.TooLate → RunsOn did old new at None
  on_late is = goes_on (λ start stream happened end. subst (λ (e : Event Transcript W).
      IsPlayEnd did (λ first told end. IsRecorded first.run told end) start stream at happened e) is end)

  pub on_deaf : (why : W) → event ≡ events.Deaf why → RunsOn did old new at None
  on_deaf why is = goes_on (λ start stream happened end. subst (λ (e : Event Transcript W).
      IsPlayEnd did (λ first told end. IsRecorded first.run told end) start stream at happened e) is end)

  pub on_full : (why : W) → event ≡ events.Full why → RunsOn did old new at None
  on_full why is = goes_on (λ start stream happened end. subst (λ (e : Event Transcript W).
      IsPlayEnd did (λ first told end. IsRecorded first.run told end) start stream at happened e) is end)

  pub on_gone : (place : ℕ) (number : Option ℕ) → event ≡ events.Gone place number → (place ≡ at → ⊥)
      → RunsOn did old new at None
  on_gone place number is other = goes_on (λ start stream happened end. other (subst (λ (e : Event Transcript W).
      IsPlayEnd did (λ first told end. IsRecorded first.run told end) start stream at happened e) is end))

  pub on_played : (place : ℕ) (transcript : Transcript) → event ≡ events.Played place transcript
      → (place ≡ at → ⊥) → RunsOn did old new at None
  on_played place transcript is other = goes_on (λ start stream happened end.
      let (here, gives, rest) = subst (λ (e : Event Transcript W).
      IsPlayEnd did (λ first told end. IsRecorded first.run told end) start stream at happened e) is end in other here)

-- its end is what has happened
pub on_end : {S K W : Type 0} (heard : K → K → List (ℕ × List ℕ) → Type 0) (did : S → S → List Deed → Type 0)
    (old mid new : List (Place (Talk TesterValue) S)) (at : ℕ) (old_sink new_sink : K)
    (event : Event Transcript W) (place : ℕ) (transcript : Transcript)
    → PlaysOn heard (λ first now told. WasTold first now told) did (λ first told end. IsRecorded first.run told end)
    old mid old_sink new_sink (Some event) → StandsWhere mid event → event ≡ events.Played place transcript
    → place ≡ at → RunsOn did old new at (Some transcript)
on_end heard did old mid new at old_sink new_sink event place transcript on stands is here = λ start stream still.
    run_ended heard did start stream old mid at old_sink new_sink event place transcript on stands is here still

-- so it is of the stream over which it is played
pub runs_ended : {S : Type 0} (did : S → S → List Deed → Type 0) (held : List (Option S))
    (old new : List (Place (Talk TesterValue) S)) (at : ℕ) (start : TesterValue) (transcript : Transcript)
    → RunsOn did old new at (Some transcript) → RunsHeld did held old at start
    → RunsThere did held at start.run transcript
runs_ended did held old new at start transcript on (stream, there, still) =
    (stream, there, on start stream still)

pub runs_further : {S : Type 0} (did : S → S → List Deed → Type 0) (held : List (Option S))
    (old new : List (Place (Talk TesterValue) S)) (at : ℕ) (start : TesterValue)
    → RunsOn did old new at None → RunsHeld did held old at start → RunsHeld did held new at start
runs_further did held old new at start on (stream, there, still) = (stream, there, on start stream still)
