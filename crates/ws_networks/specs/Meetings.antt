-- One machine that is run over a connection to a name.
use Rattle.std.specs.Prelude.{◌≡◌, ℕ, ◌≤◌, true, List, [], None, Some}
use Rattle.ws_machines.specs.Told.{Told}
use Rattle.ws_machines.specs.Machines.{Wants}
use Rattle.ws_loops.specs.Deeds.{Deed, Happened, all_done, all_shown, all_told}
use Rattle.ws_loops.specs.Paces.{begun_pace}
use Rattle.ws_loops.specs.Sinks.{HasTakenLines, said_at}
use Rattle.ws_loops.specs.Slots.{HasRunBy}
use Rattle.ws_loops.specs.declared.slot.Slot.{Slot}
use Rattle.ws_networks.specs.Networks.{HasAdded, NetworkDeed}
use Rattle.ws_networks.specs.Bounds.{bounds_from}
use Rattle.ws_networks.specs.Connecting.{HasConnected, HasTried, only_place}
use Rattle.ws_networks.specs.declared.bounds.Bounds.{Bounds}
use Rattle.ws_networks.specs.declared.bounds.Limits.{Limits}
use Rattle.ws_networks.specs.declared.meeting.Met.{Met}
use Rattle.ws_networks.specs.declared.meeting.Met.TheVariants.{Ended, NotMade}

-- The machine was run over a stream that had done nothing, from the first time until it was done: what it was told is
-- what the stream did then, and what the clock says; its limits began with the first time, and its end is what comes of
-- it.
pub record HasEnded {M S E : Type 0} (agrees : M → M → List Told → Type 0) (wants : M → Wants)
    (gives : M → List Told → E → Type 0) (did : S → S → List Deed → Type 0) (bounds : Bounds) (from to : ℕ)
    (machine : M) (end : E) (stream : S) : Type 0 where
  pub first : S
  pub happened : List Happened
  pub last : Slot M S
  pub run : HasRunBy agrees wants did from
      (record { machine = machine; stream = first; pace = begun_pace from bounds.limit bounds.until }) happened to last
  pub is_last : last.stream ≡ stream
  pub done : (wants last.machine).done ≡ true
  pub is_end : gives machine (all_told happened) end
  pub was_done : did first stream (all_done happened)

-- the same, from some time on
abbrev pub HasEndedSince : {M S E : Type 0} → (M → M → List Told → Type 0) → (M → Wants) → (M → List Told → E → Type 0)
    → (S → S → List Deed → Type 0) → Bounds → ℕ → ℕ → M → E → S → Type 0
HasEndedSince agrees wants gives did bounds from to machine end stream = (now : ℕ) × (from ≤ now)
    × HasEnded agrees wants gives did bounds now to machine end stream

-- What came of it: a connection was made, and the machine run over it; or there is none, for this reason. The deadline
-- is one for both, and passes so long from a time before which no address was tried.
abbrev pub HasMet : {M S A W N E : Type 0} → (M → M → List Told → Type 0) → (M → Wants) → (M → List Told → E → Type 0)
    → (S → S → List Deed → Type 0) → (N → N → List (NetworkDeed A W) → Type 0) → Limits → ℕ → ℕ → N → N → List ℕ → M
    → Met E S W → Type 0
HasMet agrees wants gives did does limits from to old new name machine (NotMade why) = (begun : ℕ) × (from ≤ begun)
    × HasConnected does only_place (bounds_from limits begun) begun to old new name (Some why)
HasMet agrees wants gives did does limits from to old new name machine (Ended end stream) = (begun made : ℕ)
    × (from ≤ begun) × HasConnected does only_place (bounds_from limits begun) begun made old new name None
    × HasEndedSince agrees wants gives did (bounds_from limits begun) made to machine end stream

-- ---- with the lines of the machine

-- a sink took just these lines, all of them of the only place
abbrev pub TakesOnly : {K : Type 0} → (K → K → List (ℕ × List ℕ) → Type 0) → K → K → List (List ℕ) → Type 0
TakesOnly heard old_sink new_sink lines = HasTakenLines heard old_sink new_sink (said_at only_place lines)

-- the machine was run until it was done, and a sink took its lines so
pub record HasEndedShowing {M S E K : Type 0} (heard : K → K → List (ℕ × List ℕ) → Type 0) (old_sink new_sink : K)
    (agrees : M → M → List Told → Type 0) (wants : M → Wants) (gives : M → List Told → E → Type 0)
    (did : S → S → List Deed → Type 0) (bounds : Bounds) (from to : ℕ) (machine : M) (end : E) (stream : S) : Type 0
  where
    pub ended : HasEnded agrees wants gives did bounds from to machine end stream
    pub takes : TakesOnly heard old_sink new_sink (all_shown ended.happened)

-- what came of it, with the lines that a sink took of it: those of the machine where it was run, and else none
abbrev pub HasMetShowing : {M S A W N E K : Type 0} → (K → K → List (ℕ × List ℕ) → Type 0) → K → K
    → (M → M → List Told → Type 0) → (M → Wants) → (M → List Told → E → Type 0) → (S → S → List Deed → Type 0)
    → (N → N → List (NetworkDeed A W) → Type 0) → Limits → ℕ → ℕ → N → N → List ℕ → M → Met E S W → Type 0
HasMetShowing heard old_sink new_sink agrees wants gives did does limits from to old new name machine (NotMade why) =
    TakesOnly heard old_sink new_sink [] × ((begun : ℕ) × (from ≤ begun)
    × HasConnected does only_place (bounds_from limits begun) begun to old new name (Some why))
HasMetShowing heard old_sink new_sink agrees wants gives did does limits from to old new name machine
    (Ended end stream) = (begun made : ℕ) × (from ≤ begun)
    × HasConnected does only_place (bounds_from limits begun) begun made old new name None × ((now : ℕ) × (made ≤ now)
    × HasEndedShowing heard old_sink new_sink agrees wants gives did (bounds_from limits begun) now to machine end
    stream)

-- The network tried these addresses, and the machine was run over the connection to the first that took it, and its
-- lines were taken; or none did.
abbrev pub HasMetAddresses : {M S A W N E K : Type 0} → (K → K → List (ℕ × List ℕ) → Type 0) → K → K
    → (M → M → List Told → Type 0) → (M → Wants) → (M → List Told → E → Type 0) → (S → S → List Deed → Type 0)
    → (N → N → List (NetworkDeed A W) → Type 0) → Bounds → ℕ → ℕ → N → N → List A → M → Met E S W → Type 0
HasMetAddresses {M} {S} {A} {W} heard old_sink new_sink agrees wants gives did does bounds from to old new addresses
    machine (NotMade why) = TakesOnly heard old_sink new_sink [] × ((deeds : List (NetworkDeed A W))
    × HasAdded does old new deeds × HasTried only_place bounds from to addresses (Some why) deeds)
HasMetAddresses {M} {S} {A} {W} heard old_sink new_sink agrees wants gives did does bounds from to old new addresses
    machine (Ended end stream) = (deeds : List (NetworkDeed A W)) × (made : ℕ) × HasAdded does old new deeds
    × HasTried only_place bounds from made addresses None deeds × ((now : ℕ) × (made ≤ now)
    × HasEndedShowing heard old_sink new_sink agrees wants gives did bounds now to machine end stream)
