-- A connection was begun for a case, or could not be: its machine stands last, and the others are where they were.
use Rattle.std.proofs.Common.{◌≡◌, ℕ, ◌+◌, ◌≤◌, List, [], ◌∷◌, ◌++◌, length, refl, ap, subst, arith}
use Rattle.std.proofs.Common.{Err, Ok, OnOk, Result}
use Rattle.std.proofs.lemmas.List.{length-append}
use Rattle.ws_loops.specs.Deeds.{Deed}
use Rattle.ws_networks.specs.Bounds.{bounds_from}
use Rattle.ws_networks.specs.NetworkLoops.{Standing}
use Rattle.ws_networks.specs.declared.bounds.Bounds.{Bounds}
use Rattle.ws_networks.specs.declared.dialing.Missed.{Missed}
use Rattle.ws_handshake.specs.Probes.{ProbeGives, ProbeValue, WasProbed, wanted_of}
use Rattle.ws_handshake.specs.declared.probe_end.Probe.{Probe}
use Rattle.wst_network.specs.declared.connector.ConnectMiss.{ConnectMiss}
use Rattle.wst_errands.specs.Errands.{ErrandsValue, IsErrandAt, KeepsLine, count_under_way}
use Rattle.wst_errands.specs.declared.errands.Came.TheVariants.{NotMade}
use Rattle.wst_errands.specs.declared.errands.Stage.{Stage}
use Rattle.wst_errands.specs.declared.errands.Stage.TheVariants.{Over, UnderWay}
use Rattle.wst_errands.proofs.LineLemmas.{keeps_then, line_later, missed_keeps, missed_stands}
use Rattle.wst_testing.specs.Servers.{AddressValue, limits_of_server}
use Rattle.wst_at_once.specs.Crowds.{HasConnectedFor}

-- no more are under way where one that is over stands last
over_counts : (line : List (Stage Probe ConnectMiss)) (why : Missed ConnectMiss)
    → count_under_way (line ++ Over (NotMade why) ∷ []) ≡ count_under_way line
over_counts [] why = refl
over_counts (UnderWay at ∷ line) why = ap (λ (n : ℕ). 1 + n) (over_counts line why)
over_counts (Over came ∷ line) why = over_counts line why

module _ {S A : Type 0} (did : S → S → List Deed → Type 0) (server : AddressValue) where
  abbrev StandsFor : ErrandsValue ProbeValue A S ConnectMiss Probe → ℕ → ProbeValue → Bounds → ℕ → ℕ → Type 0
  StandsFor x place start bounds begun now =
      IsErrandAt WasProbed (λ (v : ProbeValue). wanted_of v) ProbeGives did x place start bounds begun now

  abbrev KeepsAll : ℕ → ℕ → ErrandsValue ProbeValue A S ConnectMiss Probe
      → ErrandsValue ProbeValue A S ConnectMiss Probe → Type 0
  KeepsAll from to old new = KeepsLine WasProbed (λ (v : ProbeValue). wanted_of v) ProbeGives did from to old new

  -- one was begun
  pub has_begun : (old new : ErrandsValue ProbeValue A S ConnectMiss Probe) (from to now : ℕ) (bounds : Bounds) (machine : ProbeValue) → from ≤ to → now ≡ to
      → bounds ≡ bounds_from (limits_of_server server) now → length new.line ≡ length old.line + 1
      → StandsFor new (length old.line) machine bounds now now → ((time : ℕ) → KeepsAll time time old new)
      → count_under_way new.line ≡ count_under_way old.line + 1 → new.at_once ≡ old.at_once
      → length new.standings ≡ length old.standings → HasConnectedFor did server old new from to machine
  has_begun old new from to now bounds machine later is bound len stands others more at_once places = record {
    later = later;
    len = len;
    stands = subst (λ (n : ℕ). StandsFor new (length old.line) machine (bounds_from (limits_of_server server) n) n n) is
        (subst (λ (b : Bounds). StandsFor new (length old.line) machine b now now) bound stands);
    others = keeps_then WasProbed (λ (v : ProbeValue). wanted_of v) ProbeGives did from to to old old new
        (line_later WasProbed (λ (v : ProbeValue). wanted_of v) ProbeGives did from to old later) (others to);
    more = omega (arith, more);
    at_once = at_once;
    places = places;
  }

  -- its name has no address
  pub has_missed : (old new : ErrandsValue ProbeValue A S ConnectMiss Probe) (from to : ℕ) (why : Missed ConnectMiss) (machine : ProbeValue) → from ≤ to
      → WasProbed machine machine [] → new.line ≡ old.line ++ Over (NotMade why) ∷ []
      → new.standings ≡ old.standings → new.at_once ≡ old.at_once
      → HasConnectedFor did server old new from to machine
  has_missed old new from to why machine later untold line standings at_once = record {
    later = later;
    len = omega (
      arith,
      ap (λ (l : List (Stage Probe ConnectMiss)). length l) line,
      length-append old.line (Over (NotMade why) ∷ []),
    );
    stands = missed_stands WasProbed (λ (v : ProbeValue). wanted_of v) ProbeGives did old new why standings line machine
        (bounds_from (limits_of_server server) to) to to untold;
    others = keeps_then WasProbed (λ (v : ProbeValue). wanted_of v) ProbeGives did from to to old old new
        (line_later WasProbed (λ (v : ProbeValue). wanted_of v) ProbeGives did from to old later)
        (missed_keeps WasProbed (λ (v : ProbeValue). wanted_of v) ProbeGives did old new why standings line to);
    more = omega (
      arith,
      ap (λ (l : List (Stage Probe ConnectMiss)). count_under_way l) line,
      over_counts old.line why,
    );
    at_once = at_once;
    places = ap (λ (l : List (Standing ProbeValue S A ConnectMiss)). length l) standings;
  }

  -- where memory sufficed
  pub when_begun : {E : Type 0} (result : Result (Unit {0}) E) (old new : ErrandsValue ProbeValue A S ConnectMiss Probe) (from to now : ℕ) (bounds : Bounds)
      (machine : ProbeValue) → from ≤ to → now ≡ to → bounds ≡ bounds_from (limits_of_server server) now
      → OnOk result (length new.line ≡ length old.line + 1)
      → OnOk result (StandsFor new (length old.line) machine bounds now now)
      → ((time : ℕ) → OnOk result (KeepsAll time time old new))
      → OnOk result (count_under_way new.line ≡ count_under_way old.line + 1) → new.at_once ≡ old.at_once
      → length new.standings ≡ length old.standings → OnOk result (HasConnectedFor did server old new from to machine)
  when_begun (Ok done) old new from to now bounds machine later is bound len stands others more at_once places =
      has_begun old new from to now bounds machine later is bound len stands others more at_once places
  when_begun (Err why) old new from to now bounds machine later is bound len stands others more at_once places = tt

  pub when_missed : {E : Type 0} (result : Result (Unit {0}) E) (old new : ErrandsValue ProbeValue A S ConnectMiss Probe) (from to : ℕ)
      (why : Missed ConnectMiss) (machine : ProbeValue) → from ≤ to → WasProbed machine machine []
      → OnOk result (new.line ≡ old.line ++ Over (NotMade why) ∷ []) → new.standings ≡ old.standings
      → new.at_once ≡ old.at_once → OnOk result (HasConnectedFor did server old new from to machine)
  when_missed (Ok done) old new from to why machine later untold line standings at_once =
      has_missed old new from to why machine later untold line standings at_once
  when_missed (Err why) old new from to other machine later untold line standings at_once = tt
