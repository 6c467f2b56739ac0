-- A script that was run over a connection.
use Rattle.std.proofs.Common.{◌≡◌, ◌∙◌, ℕ, List, [], ◌∷◌, ◌++◌, map, Option, refl, sym, ap, subst}
use Rattle.std.specs.List.{AllZip, concat}
use Rattle.ws_scripts.specs.Scripts.{ArePieces, turn_bytes}
use Rattle.ws_scripts.specs.declared.script.Chop.{Chop}
use Rattle.ws_scripts.specs.declared.script.Step.{Step}
use Rattle.ws_scripts.specs.declared.transcript.Transcript.{Transcript}
use Rattle.ws_machines.specs.Machines.{Extends, IsFirstWanted, ServedOne}
use Rattle.ws_machines.specs.Told.{Told}
use Rattle.ws_tester.specs.Following.{BeginsRun, Happens, ShowsTurns, TesterValue, WasTold}
use Rattle.ws_tester.specs.Outgoings.{HaveBytes}
use Rattle.ws_tester.specs.Records.{IsRecorded}
use Rattle.ws_tester.specs.RunStates.{RunState, wanted_in}
use Rattle.ws_connection.specs.ConnectionValues.{ConnectionRun, ConnectionValue}
use Rattle.ws_connection.specs.InnerDriving.{DrivesOver, RecordsFrom}
use Rattle.ws_connection.specs.Probing.{FollowsInOrder}
use Rattle.ws_connection.specs.StreamCalls.{DidCalls}
use Rattle.ws_connection.proofs.StreamLaws.{did_read, did_write}

-- a run between two connections
abbrev pub between : ConnectionValue → ConnectionValue → ConnectionRun
between old new = record { old = old; new = new }

-- ---- the turns

-- the pieces of each turn are its bytes, and none is empty
pub bytes_are : (chop : Chop) (key : Option (List ℕ)) (turns : List (List Step)) (script : List (List (List ℕ)))
    → AllZip (ArePieces chop key) turns script → map concat script ≡ map (turn_bytes key) turns
bytes_are chop key [] [] h = refl
bytes_are chop key [] (pieces ∷ script) h = absurd h
bytes_are chop key (steps ∷ turns) [] h = absurd h
bytes_are chop key (steps ∷ turns) (pieces ∷ script) (is, h) = ap (λ (l : List ℕ). l ∷ map concat script) is.joined
    ∙ ap (λ (l : List (List ℕ)). turn_bytes key steps ∷ l) (bytes_are chop key turns script h)

pub pieces_have_bytes : (chop : Chop) (key : Option (List ℕ)) (turns : List (List Step))
    (script : List (List (List ℕ))) → AllZip (ArePieces chop key) turns script → HaveBytes script
pieces_have_bytes chop key [] [] h = tt
pieces_have_bytes chop key [] (pieces ∷ script) h = absurd h
pieces_have_bytes chop key (steps ∷ turns) [] h = absurd h
pieces_have_bytes chop key (steps ∷ turns) (pieces ∷ script) (is, h) =
    (is.none_empty, pieces_have_bytes chop key turns script h)

-- ---- one thing more

-- some events in order, and then one that was wanted first
order_more : (a b c : RunState) (told : List Told) (event : Told) → FollowsInOrder a b told → Happens b event c
    → IsFirstWanted (wanted_in b) event → FollowsInOrder a c (told ++ event ∷ [])
order_more a b c [] event same happens first = (
  c,
  subst (λ (s : RunState). Happens s event c) same happens,
  subst (λ (s : RunState). IsFirstWanted (wanted_in s) event) same first,
  refl,
)
order_more a b c (one ∷ told) event (next, happens, wanted, h) more first =
    (next, happens, wanted, order_more next b c told event h more first)

-- what happened to a tester that was told one thing
one_event : (x y : TesterValue) (event : Told) → ShowsTurns x → Extends WasTold x y (event ∷ [])
    → Happens x.run event y.run
one_event x y event shows told = pick (told x [] (refl, shows)).0
  where
    pick : (next : RunState) × Happens x.run event next × (y.run ≡ next) → Happens x.run event y.run
    pick (next, happens, same) = subst (λ (s : RunState). Happens x.run event s) (sym same) happens

pub nothing_driven : (start : TesterValue) (x : ConnectionValue) → WasTold start start []
    → DrivesOver start start (between x x)
nothing_driven start x was = record { told = []; did = refl; was_told = was; in_order = refl }

pub drives_more : (start old new : TesterValue) (x y z : ConnectionValue) → DrivesOver start old (between x y)
    → ServedOne WasTold (λ (v : TesterValue). wanted_in v.run) DidCalls old new y z
    → DrivesOver start new (between x z)
drives_more start old new x y z over served = record {
  told = over.told ++ served.event ∷ [];
  did = served.done x over.told over.did;
  was_told = served.told start over.told over.was_told;
  in_order = order_more start.run old.run new.run over.told served.event over.in_order
      (one_event old new served.event over.was_told.1 served.told) served.order;
}

-- ---- the end

-- a tester that was run to its end has recorded what went over the connection
pub drives_record : (start now : TesterValue) (x y : ConnectionValue) (transcript : Transcript)
    → (over : DrivesOver start now (between x y)) → IsRecorded start.run over.told transcript
    → IsRecorded now.run [] transcript → RecordsFrom start.run transcript (between x y)
drives_record start now x y transcript over recorded at_end = λ script pieces begins is. record {
  script = script.script;
  bytes = refl;
  has_bytes = pieces;
  told = over.told;
  did = over.did;
  has_got = did_read x y over.told over.did;
  has_put = did_write x y over.told over.did;
  start = start.run;
  begins = subst (λ (n : ℕ). BeginsRun (record {
    plan = script.plan;
    script = script.script;
    budget = n;
    first = script.first;
  }) start.run) is begins;
  in_order = record {
    now = at_end.of_run.now;
    follows = subst (λ (s : RunState). FollowsInOrder start.run s over.told) (sym at_end.of_run.follows) over.in_order;
    turns = at_end.of_run.turns;
    ended = at_end.of_run.ended;
  };
  recorded = recorded;
}
