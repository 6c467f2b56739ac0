-- The next case is begun, as its source gives it.
use Rattle.std.proofs.Common.{◌≡◌, ◌∙◌, ◌<◌, ℕ, Bool, true, List, [], ◌∷◌, ◌++◌, Option, Some, ap, map, subst, sym}
use Rattle.std.proofs.lemmas.List.{map-append}
use Rattle.ws_loops.specs.Deeds.{Deed}
use Rattle.ws_connection.specs.Probing.{BeginsProbe, bytes_by_turn}
use Rattle.ws_handshake.specs.Probes.{ProbeValue}
use Rattle.ws_handshake.specs.declared.probe_end.Probe.{Probe}
use Rattle.ws_scripts.specs.declared.script.Case.{Case}
use Rattle.wst_network.specs.declared.connector.ConnectMiss.{ConnectMiss}
use Rattle.wst_errands.specs.Errands.{ErrandsValue}
use Rattle.wst_testing.specs.Runner.{Giving, GivesNext, MovesOn, StaysGiving}
use Rattle.wst_testing.specs.Servers.{AddressValue, plan_at}
use Rattle.wst_at_once.specs.Crowds.{AreUnderWay, BeginsNext, HasConnectedFor}
use Rattle.wst_at_once.proofs.BesideLemmas.{stand_more}

module _ {I S : Type 0} (gave gave_all : Giving I S) (last : S → Option I) (left : S → ℕ) (case_of : I → Case) where
  -- the next one was given, and is kept
  pub gives_one : (old mid new : S) (moved : Bool) (item : I) → MovesOn gave gave_all last left case_of old mid moved
      → moved ≡ true → last mid ≡ Some item → StaysGiving gave mid new → left new ≡ left mid
      → GivesNext gave left case_of old new (Some item)
  gives_one old mid new moved item moves on is stays same =
      let gives = subst (λ (o : Option I). GivesNext gave left case_of old mid o) is
      (subst (λ (b : Bool). MovesOn gave gave_all last left case_of old mid b) on moves) in (
        gives.0,
        subst (λ (n : ℕ). n < left old) (sym same) gives.1,
        λ start items given.
            let one = gives.2 start items given in (stays start (items ++ item ∷ []) one.0, one.1),
      )

  -- it stands behind the others
  pub begins_one : {J : Type 0} (kept_item : J → I) (old new : S) (before after : List J) (item : J)
      → after ≡ before ++ item ∷ [] → GivesNext gave left case_of old new (Some (kept_item item))
      → BeginsNext gave gave_all left case_of old new (map kept_item before) (map kept_item after) true
  begins_one {J} kept_item old new before after item is gives = (
    kept_item item,
    ap (λ (l : List J). map kept_item l) is ∙ map-append kept_item before (item ∷ []),
    gives,
  )

-- and its machine stands behind theirs
pub begun_stand : {S A I J : Type 0} (did : S → S → List Deed → Type 0) (case_of : I → Case) (kept_item : J → I)
    (server : AddressValue) (key : List ℕ) (from to : ℕ) (old new : ErrandsValue ProbeValue A S ConnectMiss Probe)
    (before after : List J) (item : J) (case : Case) (machine : ProbeValue)
    → AreUnderWay did case_of kept_item server key old before from → case ≡ case_of (kept_item item)
    → BeginsProbe (plan_at server) (bytes_by_turn case (Some key)) server.request server.budget machine
    → HasConnectedFor did server old new from to machine → after ≡ before ++ item ∷ []
    → AreUnderWay did case_of kept_item server key new after to
begun_stand {S} {A} {I} {J} did case_of kept_item server key from to old new before after item case machine h is begins
    connected last =
    subst (λ (l : List J). AreUnderWay did case_of kept_item server key new l to) (sym last)
    (stand_more did case_of kept_item server key from to old new before item machine h
    (subst (λ (c : Case). BeginsProbe (plan_at server) (bytes_by_turn c (Some key)) server.request server.budget
    machine) is begins) connected)
