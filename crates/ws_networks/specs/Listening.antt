-- Listening at a name: each of its addresses is tried, one after the other, until one can be listened at.
use Rattle.std.specs.Prelude.{◌≡◌, ℕ, ◌⊎◌, List, [], ◌∷◌, ◌++◌, map}
use Rattle.ws_networks.specs.Networks.{HasAdded, NetworkDeed}
use Rattle.ws_networks.specs.Networks.NetworkDeed.{Bound, Found, NotBound, NotFound}
use Rattle.ws_networks.specs.declared.listening.Unheard.{Unheard}
use Rattle.ws_networks.specs.declared.listening.Unheard.TheVariants.{Failed, NoAddress}

-- addresses that could not be listened at, each with its reason
abbrev pub addresses_of : {A W : Type 0} → List (A × W) → List A
addresses_of refused = map (λ x. x.0) refused

-- and what the network did for them
abbrev pub refusals : {A W : Type 0} → List (A × W) → List (NetworkDeed A W)
refusals refused = map (λ x. NotBound x.0 x.1) refused

-- the reason that is told: the first, or that there is no address
abbrev pub first_refusal : {A W : Type 0} → List (A × W) → Unheard W
first_refusal [] = NoAddress
first_refusal (x ∷ refused) = Failed x.1

-- One of these addresses is listened at, and none in front of it could be.
pub record OneBound {A W : Type 0} (addresses : List A) (deeds : List (NetworkDeed A W)) : Type 0 where
  pub refused : List (A × W)
  pub address : A
  pub after : List A
  pub parts : addresses ≡ addresses_of refused ++ address ∷ after
  pub tried : deeds ≡ refusals refused ++ Bound address ∷ []

-- None of these addresses could be listened at, and the first reason is told.
pub record NoneBound {A W : Type 0} (addresses : List A) (why : Unheard W) (deeds : List (NetworkDeed A W)) : Type 0
  where
    pub refused : List (A × W)
    pub parts : addresses ≡ addresses_of refused
    pub tried : deeds ≡ refusals refused
    pub first : why ≡ first_refusal refused

-- what the network did to listen at this name, if it does: it found addresses, and one of them is listened at
abbrev pub Listens : {A W : Type 0} → List ℕ → List (NetworkDeed A W) → Type 0
Listens {A} {W} name deeds = (addresses : List A) × (tries : List (NetworkDeed A W))
    × (deeds ≡ Found name addresses ∷ tries) × OneBound addresses tries

-- and if it doesn't, for this reason: it found none, or none of them could be listened at
abbrev pub CannotListen : {A W : Type 0} → List ℕ → Unheard W → List (NetworkDeed A W) → Type 0
CannotListen {A} {W} name why deeds = ((cause : W) × (why ≡ Failed cause) × (deeds ≡ NotFound name cause ∷ []))
    ⊎ ((addresses : List A) × (tries : List (NetworkDeed A W)) × (deeds ≡ Found name addresses ∷ tries)
    × NoneBound addresses why tries)

-- the network did such things since the first state
abbrev pub HasAddedSome : {N D : Type 0} → (N → N → List D → Type 0) → N → N → (List D → Type 0) → Type 0
HasAddedSome {N} {D} did old new P = (deeds : List D) × HasAdded did old new deeds × P deeds
