-- Connections of clients that come, one beside the other, and all that is told of them.
use Rattle.std.specs.Prelude.{◌≡◌, ◌⊎◌, ℕ, ◌+◌, ◌≤◌, ◌<◌, ⊤, true, false, nat_eq, if◌then◌else◌, List, []}
use Rattle.std.specs.Prelude.{◌∷◌, ◌++◌, codes, length, map, Option, None, Some}
use Rattle.std.specs.Fmt.{decimal}
use Rattle.std.specs.List.{All, concat}
use Rattle.ws_frame.specs.Devices.{Device, HasWritten}
use Rattle.ws_frame.specs.declared.source.DataStyle.{DataStyle}
use Rattle.ws_wire.specs.declared.role.Role.TheVariants.{Client, Server}
use Rattle.ws_loops.specs.Deeds.{Deed}
use Rattle.ws_loops.specs.Listeners.{AcceptDeed, HasHeard}
use Rattle.ws_loops.specs.Listeners.AcceptDeed.{CouldNotGive}
use Rattle.ws_networks.specs.Networks.{HasAdded, NetworkDeed, deeds_at}
use Rattle.ws_clients.specs.Numbers.{clients_given}
use Rattle.ws_tap.specs.declared.tapped.Tapped.{Tapped}
use Rattle.ws_tap.specs.declared.tapping.TapEnd.TheVariants as tap_end
use Rattle.ws_relays.specs.Connections.{IsRelayedTo, IsTappedSoFar}
use Rattle.ws_relays.specs.declared.relays.RelayEnd.{RelayEnd}
use Rattle.ws_relays.specs.declared.relays.RelayEnd.TheVariants as relay_end
use Rattle.ws_relays.specs.declared.tapping.Tapping.{Tapping}
use Rattle.ws_relays.specs.declared.tapping.TappingEnd.{TappingEnd}
use Rattle.ws_relays.specs.declared.tapping.TappingEnd.TheVariants.{Deaf, Done, NoMemory, NotWritten, WaitFailed}

-- ---- what is written

-- the words that tell how a connection ended
abbrev pub relay_end_words : RelayEnd → List ℕ
relay_end_words relay_end.NoConnection = codes "no connection"
relay_end_words (relay_end.Tapped (tap_end.Ended Client)) = codes "end client"
relay_end_words (relay_end.Tapped (tap_end.Ended Server)) = codes "end server"
relay_end_words (relay_end.Tapped tap_end.Broken) = codes "end broken"

-- its last line
abbrev pub relay_end_line : ℕ → RelayEnd → List ℕ
relay_end_line number end = concat (decimal number ∷ codes " " ∷ relay_end_words end ∷ codes "\n" ∷ [])

-- a part of what is written: lines of the connection of this number, or the line behind them
pub data TapPart : Type 0 where
  LinesOf : ℕ → List ℕ → TapPart
  EndOf : ℕ → RelayEnd → TapPart

-- all of it
abbrev pub parts_text : List TapPart → List ℕ
parts_text [] = []
parts_text (LinesOf number text ∷ parts) = text ++ parts_text parts
parts_text (EndOf number end ∷ parts) = relay_end_line number end ++ parts_text parts

-- the lines of one of them
abbrev pub lines_of_number : ℕ → List TapPart → List ℕ
lines_of_number number [] = []
lines_of_number number (LinesOf other text ∷ parts) =
    if nat_eq other number then text ++ lines_of_number number parts else lines_of_number number parts
lines_of_number number (EndOf other end ∷ parts) = lines_of_number number parts

-- the ends, each with its number
abbrev pub ends_of_parts : List TapPart → List (ℕ × RelayEnd)
ends_of_parts [] = []
ends_of_parts (LinesOf number text ∷ parts) = ends_of_parts parts
ends_of_parts (EndOf number end ∷ parts) = (number, end) ∷ ends_of_parts parts

abbrev pub numbers_of_ends : List (ℕ × RelayEnd) → List ℕ
numbers_of_ends ends = map (λ end. end.0) ends

-- no line of a connection stands behind its last one
abbrev pub IsPartAfter : ℕ → TapPart → Type 0
IsPartAfter ended (LinesOf number text) = number ≡ ended → ⊥
IsPartAfter ended (EndOf number end) = number ≡ ended → ⊥

-- Where so many had ended before, each part is of one of the connections that can have come by then: at most so many go
-- on at a time.
abbrev pub ArePartsInTurn : ℕ → ℕ → List TapPart → Type 0
ArePartsInTurn most ended [] = ⊤
ArePartsInTurn most ended (LinesOf number text ∷ parts) = (1 ≤ number) × (number ≤ ended + most)
    × ArePartsInTurn most ended parts
ArePartsInTurn most ended (EndOf number end ∷ parts) = (1 ≤ number) × (number ≤ ended + most)
    × All (IsPartAfter number) parts × ArePartsInTurn most (ended + 1) parts

-- and each is of one of so many that came
abbrev pub IsTapPartOf : ℕ → TapPart → Type 0
IsTapPartOf came (LinesOf number text) = number ≤ came
IsTapPartOf came (EndOf number end) = number ≤ came

-- ---- each connection

-- the connection of this number, whose payloads are shown in this style
abbrev pub tapped_in : DataStyle → ℕ → Tapped
tapped_in style number = record { number = number; style = style }

-- Of all that the network did, it did this for a connection: it looked a name up, and behind that it did these things
-- for this place, and none for it between.
pub record WasDoneFor {A W : Type 0} (at : ℕ) (mine all : List (NetworkDeed A W)) : Type 0 where
  pub look : NetworkDeed A W
  pub tries : List (NetworkDeed A W)
  pub is : mine ≡ look ∷ tries
  pub before : List (NetworkDeed A W)
  pub after : List (NetworkDeed A W)
  pub parts : all ≡ before ++ look ∷ after
  pub later : List (NetworkDeed A W)
  pub own : deeds_at at after ≡ tries ++ later

-- one has ended: it follows from what was done for it, and its lines from that
pub record HasRelayEnded {A S W : Type 0} (did : S → S → List Deed → Type 0) (tapping : Tapping)
    (network : List (NetworkDeed A W)) (parts : List TapPart) (number : ℕ) (end : RelayEnd) : Type 0 where
  pub at : ℕ
  pub mine : List (NetworkDeed A W)
  pub among : WasDoneFor at mine network
  pub relayed : IsRelayedTo did tapping.server.now (tapped_in tapping.style number) at mine
      (lines_of_number number parts) end

-- one goes on: nothing was told of it yet, or what is certain of what its streams did so far
abbrev pub GoesOnSoFar : {S : Type 0} → (S → S → List Deed → Type 0) → Tapping → List TapPart → ℕ → Type 0
GoesOnSoFar did tapping parts number = (lines_of_number number parts ≡ [])
    ⊎ IsTappedSoFar did (tapped_in tapping.style number) (lines_of_number number parts)

-- ---- all of them

-- the number of the last connection: so many are to be tapped, or as many as there are numbers
abbrev pub last_tap_number : Option ℕ → ℕ
last_tap_number None = 4294967295
last_tap_number (Some most) = most

-- Clients came: the listener gave them, no more than are to be tapped, and the network did this for them. These parts
-- tell of them. Each end that was told is that of a connection that came, and follows from what was done for it. So
-- many go on still, never more than may, and what was told of each follows from what its streams did.
pub record HasTappedAll {A S L N W : Type 0} (did : S → S → List Deed → Type 0)
    (ldid : L → L → List (AcceptDeed W) → Type 0) (ndid : N → N → List (NetworkDeed A W) → Type 0) (tapping : Tapping)
    (listener : L) (network : N) (there : ℕ) (parts : List TapPart) : Type 0 where
  pub last : L
  pub deeds : List (AcceptDeed W)
  pub asked : HasHeard ldid listener last deeds
  pub within : clients_given deeds ≤ last_tap_number tapping.count
  pub last_network : N
  pub done : List (NetworkDeed A W)
  pub added : HasAdded ndid network last_network done
  pub turns : ArePartsInTurn tapping.at_once 0 parts
  pub came_all : All (IsTapPartOf (clients_given deeds)) parts
  pub ends : All (λ end. HasRelayEnded did tapping done parts end.0 end.1) (ends_of_parts parts)
  pub goes_on : (number : ℕ) → 1 ≤ number → number ≤ clients_given deeds
      → All (λ other. other ≡ number → ⊥) (numbers_of_ends (ends_of_parts parts))
      → GoesOnSoFar did tapping parts number
  pub came : clients_given deeds ≡ there + length (ends_of_parts parts)
  pub few : there ≤ tapping.at_once

-- The tapping has ended so. Done: as many as were to be tapped have ended, and all of that was written. Deaf: nobody is
-- there, and the listener said last that it can give none. WaitFailed: nothing could be waited for. NotWritten: the
-- output has failed. NoMemory: memory ran out, and perhaps some bytes more were written.
abbrev pub TapsAll : {A S L N W : Type 0} → (S → S → List Deed → Type 0) → (L → L → List (AcceptDeed W) → Type 0)
    → (N → N → List (NetworkDeed A W) → Type 0) → Tapping → L → N → Device → TappingEnd → Type 0
TapsAll did ldid ndid tapping listener network output Done = (output.failed ≡ false) × ((parts : List TapPart)
    × HasTappedAll did ldid ndid tapping listener network 0 parts × HasWritten (parts_text parts) output
    × (length (ends_of_parts parts) ≡ last_tap_number tapping.count))
TapsAll {W = W} did ldid ndid tapping listener network output Deaf = (output.failed ≡ false)
    × ((parts : List TapPart) × (all : HasTappedAll did ldid ndid tapping listener network 0 parts)
    × HasWritten (parts_text parts) output × (length (ends_of_parts parts) < last_tap_number tapping.count)
    × ((before : List (AcceptDeed W)) × (why : W) × (all.deeds ≡ before ++ CouldNotGive why ∷ [])))
TapsAll did ldid ndid tapping listener network output WaitFailed = (output.failed ≡ false) × ((there : ℕ)
    × (parts : List TapPart) × HasTappedAll did ldid ndid tapping listener network there parts
    × HasWritten (parts_text parts) output × (length (ends_of_parts parts) < last_tap_number tapping.count))
TapsAll did ldid ndid tapping listener network output NotWritten = (output.failed ≡ true)
    × (0 < last_tap_number tapping.count)
TapsAll did ldid ndid tapping listener network output NoMemory = (output.failed ≡ false) × ((there : ℕ)
    × (parts : List TapPart) × (some : List ℕ) × HasTappedAll did ldid ndid tapping listener network there parts
    × HasWritten (parts_text parts ++ some) output × (length (ends_of_parts parts) < last_tap_number tapping.count))

-- that no client can be taken for now was told once, or not at all
abbrev pub ToldOnce : {K : Type 0} → (K → K → Type 0) → K → K → Type 0
ToldOnce told old new = (new ≡ old) ⊎ told old new
