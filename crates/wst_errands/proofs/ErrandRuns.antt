-- A run of all errands: they come on, and then one is over.
use Rattle.std.proofs.Common.{◌≡◌, ℕ, ◌<◌, List, None, subst, OnOk}
use Rattle.std.specs.Prelude.{Err, Ok, Result}
use Rattle.std.proofs.lemmas.Bool.{false≢true}
use Rattle.ws_machines.specs.Told.{Told}
use Rattle.ws_machines.specs.Machines.{Wants}
use Rattle.ws_loops.specs.Deeds.{Deed}
use Rattle.ws_loops.specs.declared.looping.Ending.{Ending}
use Rattle.ws_loops.specs.declared.looping.Ending.TheVariants as ending
use Rattle.ws_networks.specs.NetworkLoops.{AreFree, HaveComeOn, IsNetworkEnding, NetworkValue, Standing}
use Rattle.ws_networks.specs.Networks.{NetworkDeed}
use Rattle.wst_errands.specs.Errands.{ErrandsValue, HasEndedIn, IsLineSound, KeepsLine, count_under_way}
use Rattle.wst_errands.specs.declared.errands.Stage.{Stage}
use Rattle.wst_errands.proofs.LineLemmas.{keeps_then, line_comes, one_over, over_keeps, sound_comes}

module _ {M S A W E K N F : Type 0} (agrees : M → M → List Told → Type 0) (wants : M → Wants)
    (gives : M → List Told → E → Type 0) (did : S → S → List Deed → Type 0)
    (heard : K → K → List (ℕ × List ℕ) → Type 0) (does : N → N → List (NetworkDeed A W) → Type 0) (from to : ℕ)
    (seen : ErrandsValue M A S W E) (mid new : List (Standing M S A W)) (s t : K) (n o : N)
    (come : HaveComeOn agrees wants did heard does from to seen.standings mid s t n o) (at : ℕ)
    (after : List (Stage E W)) (sound : IsLineSound seen.standings seen.line) where
  pub ended_keeps : (result : Result (Unit {0}) F)
      → OnOk result (HasEndedIn agrees wants gives did at mid new seen.line after)
      → OnOk result (KeepsLine agrees wants gives did from to seen
      (record { at_once = seen.at_once; standings = new; line = after }))
  ended_keeps (Ok done) ends = keeps_then agrees wants gives did from to to seen
      (record { at_once = seen.at_once; standings = mid; line = seen.line })
      (record { at_once = seen.at_once; standings = new; line = after })
      (line_comes agrees wants gives did heard does from to seen.standings mid s t n o come seen.at_once seen.line)
      (over_keeps agrees wants gives did at mid new seen.line after
      (sound_comes agrees wants gives did heard does from to seen.standings mid s t n o come seen.line sound) ends to
      seen.at_once)
  ended_keeps (Err why) ends = tt

  pub ended_fewer : (result : Result (Unit {0}) F)
      → OnOk result (HasEndedIn agrees wants gives did at mid new seen.line after)
      → OnOk result (count_under_way after < count_under_way seen.line)
  ended_fewer (Ok done) ends = one_over agrees wants gives did at mid new seen.line after
      (sound_comes agrees wants gives did heard does from to seen.standings mid s t n o come seen.line sound) ends
  ended_fewer (Err why) ends = tt

-- it is not too late where nothing is waited for
pub never_late : {M A S W : Type 0} (wants : M → Wants) (now : ℕ) (l : NetworkValue M A S W) (e : Ending)
    → e ≡ ending.TooLate → IsNetworkEnding wants None now l e → ⊥
never_late wants now l e is h = false≢true (subst (λ (x : Ending). IsNetworkEnding wants None now l x) is h).0

pub no_slot : {M A S W : Type 0} (wants : M → Wants) (now : ℕ) (l : NetworkValue M A S W) (e : Ending)
    → e ≡ ending.NoSlot → IsNetworkEnding wants None now l e → AreFree l.standings
no_slot wants now l e is h = subst (λ (x : Ending). IsNetworkEnding wants None now l x) is h
