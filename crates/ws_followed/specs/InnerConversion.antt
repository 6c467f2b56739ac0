-- Inside the crate: the heads of what both ends sent. A reader may skip this file.
use Rattle.std.specs.Prelude.{◌≡◌, ⊤, ℕ, ◌≤◌, ◌==◌, if◌then◌else◌, List, [], ◌∷◌, drop, length, Option}
use Rattle.ws_upgrade.specs.Openings.{IsResponseTo}
use Rattle.ws_upgrade.specs.Reading.{IsRequestRead}
use Rattle.ws_upgrade.specs.declared.requests.RequestRead.TheVariants as request
use Rattle.ws_upgrade.specs.declared.requests.Upgrade.{Upgrade}
use Rattle.ws_upgrade.specs.declared.responses.ResponseRead.TheVariants as response
use Rattle.ws_followed.specs.declared.conversion.FollowedFault.{FollowedFault}
use Rattle.ws_followed.specs.declared.conversion.FollowedFault.TheVariants.{CutResponse, Damaged, Missing, NoMemory}
use Rattle.ws_followed.specs.declared.conversion.FollowedFault.TheVariants.{NoRequest, Response}
use Rattle.ws_followed.specs.declared.conversion.Heads.{Heads}
use Rattle.ws_followed.specs.declared.segment.Node.{Node}
use Rattle.ws_followed.specs.declared.segment.Node.TheVariants.{Zero, One}
use Rattle.ws_followed.specs.Closes.{HoldsClose}

-- how many lines of a text stand before those of the segments, by its first byte
abbrev pub front_lines : List ℕ → ℕ
front_lines [] = 5
front_lines (byte ∷ bytes) = if byte == 10 then 6 else 5

-- what an end of this number sent, of what both did
abbrev pub bytes_by : Node → List ℕ → List ℕ → List ℕ
bytes_by Zero zero one = zero
bytes_by One zero one = one

abbrev pub bytes_beside : Node → List ℕ → List ℕ → List ℕ
bytes_beside Zero zero one = one
bytes_beside One zero one = zero

abbrev pub IsOpeningOf : List ℕ → ℕ → Type 0
IsOpeningOf bytes len = (upgrade : Upgrade) × IsRequestRead [] bytes (request.Got upgrade len)

abbrev pub IsOpening : List ℕ → Type 0
IsOpening bytes = (len : ℕ) × IsOpeningOf bytes len

abbrev pub AcceptsOpening : List ℕ → List ℕ → ℕ → Type 0
AcceptsOpening client server len = (protocol : Option ℕ) × IsResponseTo client server (response.Got len protocol)

abbrev pub IsUnanswered : List ℕ → List ℕ → FollowedFault → Type 0
IsUnanswered client server (Damaged number) = ⊥
IsUnanswered client server (Missing number) = ⊥
IsUnanswered client server NoRequest = ⊥
IsUnanswered client server CutResponse = IsResponseTo client server response.Need
IsUnanswered client server (Response fault) = IsResponseTo client server (response.Refused fault)
IsUnanswered client server NoMemory = ⊤

abbrev pub AreWithin : List ℕ → List ℕ → Heads → Type 0
AreWithin zero one heads = (heads.to_server ≤ length (bytes_by heads.client zero one))
    × (heads.from_server ≤ length (bytes_beside heads.client zero one))

-- the heads of what both sent
pub record AreHeads (zero one : List ℕ) (heads : Heads) : Type 0 where
  pub request : IsOpeningOf (bytes_by heads.client zero one) heads.to_server
  pub answer : AcceptsOpening (bytes_by heads.client zero one) (bytes_beside heads.client zero one) heads.from_server
  pub within : AreWithin zero one heads

abbrev pub LackHeads : List ℕ → List ℕ → FollowedFault → Type 0
LackHeads zero one (Damaged number) = ⊥
LackHeads zero one (Missing number) = ⊥
LackHeads zero one NoRequest = (node : Node) (len : ℕ) → IsOpeningOf (bytes_by node zero one) len → ⊥
LackHeads zero one CutResponse = (client : Node) × IsOpening (bytes_by client zero one)
    × IsUnanswered (bytes_by client zero one) (bytes_beside client zero one) CutResponse
LackHeads zero one (Response fault) = (client : Node) × IsOpening (bytes_by client zero one)
    × IsUnanswered (bytes_by client zero one) (bytes_beside client zero one) (Response fault)
LackHeads zero one NoMemory = ⊤

abbrev pub HoldCloses : List ℕ → List ℕ → Heads → Type 0
HoldCloses zero one heads = HoldsClose (drop heads.to_server (bytes_by heads.client zero one))
    × HoldsClose (drop heads.from_server (bytes_beside heads.client zero one))
