-- How a target is read: the parts of its code.
use Rattle.std.specs.Prelude.{◌≡◌, ℕ, Bool, true, false, List, ◌++◌, codes, IsTrue, ⊤}
use Rattle.ws_upgrade.specs.Texts.{IsHost, IsPath}
use Rattle.ws_targets.specs.Places.{IsPlace, EndsInPort, at_sign, has_byte}
use Rattle.ws_targets.specs.Targets.{TargetValue, IsUrlOf, path_of}
use Rattle.ws_targets.specs.declared.place.Place.{Place}
use Rattle.ws_targets.specs.declared.target.TargetFault.{TargetFault}
use Rattle.ws_targets.specs.declared.target.TargetFault.TheVariants.{Bad, NoMemory}

-- where a connection is made, by the host and whether the port 80 is to be put behind it
abbrev pub address_at : Bool → List ℕ → List ℕ
address_at true host = host ++ codes ":80"
address_at false host = host

-- the place that was read of an authority
abbrev pub IsPlaceRead : List ℕ → Place → Type 0
IsPlaceRead authority place = IsPlace authority place.host.now (address_at place.at_default place.host.now)

-- there is none
abbrev pub LacksPlace : List ℕ → Type 0
LacksPlace authority = (host address : List ℕ) → IsPlace authority host address → ⊥

-- the same of an authority without a user
abbrev pub IsPlaceAsked : List ℕ → Place → Type 0
IsPlaceAsked authority place = ¬ (IsTrue (has_byte at_sign authority)) × IsPlaceRead authority place

abbrev pub LacksPlaceAsked : List ℕ → Type 0
LacksPlaceAsked authority = ¬ (IsTrue (has_byte at_sign authority)) → LacksPlace authority

abbrev pub EndsSoInPort : List ℕ → Type 0
EndsSoInPort bytes = (name : List ℕ) × (port : ℕ) × EndsInPort bytes name port

-- a target that can be asked for is made of these parts
abbrev pub HasParts : List ℕ → Bool → List ℕ → TargetValue → Type 0
HasParts host at_default resource target =
    (target.address ≡ address_at at_default host) × (target.host ≡ host) × (target.path ≡ path_of resource)

-- there is none, or memory ran out
abbrev pub RefusesResource : List ℕ → TargetFault → Type 0
RefusesResource resource Bad = ¬ (IsPath (path_of resource))
RefusesResource resource NoMemory = ⊤

-- a URL names a target that can be asked for
abbrev pub IsUrlRead : List ℕ → TargetValue → Type 0
IsUrlRead url target = IsUrlOf url target × IsHost target.host × IsPath target.path

abbrev pub RefusesUrl : List ℕ → TargetFault → Type 0
RefusesUrl url Bad = (target : TargetValue) → IsUrlRead url target → ⊥
RefusesUrl url NoMemory = ⊤
