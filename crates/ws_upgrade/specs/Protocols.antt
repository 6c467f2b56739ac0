-- Subprotocols: RFC 6455 sections 1.9, 4.1 and 4.2.2.
use Rattle.std.specs.Prelude.{◌≡◌, ℕ, ◌≤◌, List, [], ◌∷◌, ◌++◌, length, codes, Bool, ◌||◌, ◌==◌, All, IsTrue, Option}
use Rattle.std.specs.Prelude.{Some, None, slice_get, ◌⊎◌, IfSome}
use Rattle.std.specs.List.{list_any, AllPairs, Contains}
use Rattle.std.specs.Char.{is_ascii_alphanumeric}
use Rattle.ws_upgrade.specs.Members.{HeaderPairs, members_of}

-- ---- names

-- a letter, a digit or one of !#$%&'*+-.^_`|~: what stands in a token (RFC 9110 section 5.6.2)
abbrev pub is_token_byte : ℕ → Bool
is_token_byte byte = is_ascii_alphanumeric byte || list_any (λ other. other == byte) (codes "!#$%&'*+-.^_`|~")

-- the name of a subprotocol: a token of at most 64 bytes, our choice
abbrev pub IsProtocolName : List ℕ → Type 0
IsProtocolName name = (1 ≤ length name) × (length name ≤ 64) × All (λ byte. IsTrue (is_token_byte byte)) name

-- names that can be offered: at most 16, our choice, and no two of them are equal
pub record AreOffers (names : List (List ℕ)) : Type 0 where
  pub few : length names ≤ 16
  pub valid : All IsProtocolName names
  pub distinct : AllPairs (λ one other. ¬ (one ≡ other)) names

-- ---- the choice

-- the members of the headers that name subprotocols
abbrev pub protocols_in : HeaderPairs → List (List ℕ)
protocols_in headers = members_of (codes "Sec-WebSocket-Protocol") headers

-- the name stands at this place of the list, and at none before it
pub record IsFirstPlace (names : List (List ℕ)) (name : List ℕ) (place : ℕ) : Type 0 where
  pub there : slice_get names place ≡ Some name
  pub least : (other : ℕ) → slice_get names other ≡ Some name → place ≤ other

-- the choice: the first of the members that is in the list, byte for byte, told by its first place there, whatever the
-- order of the list; none where no member is in it
abbrev pub IsChoice : List (List ℕ) → List (List ℕ) → Option ℕ → Type 0
IsChoice known members None = All (λ member. ¬ (Contains known member)) members
IsChoice known members (Some place) =
    (before : List (List ℕ)) × (member : List ℕ) × (after : List (List ℕ)) × (members ≡ before ++ member ∷ after)
    × All (λ other. ¬ (Contains known other)) before × IsFirstPlace known member place

-- the name at the place that was chosen, if any was
abbrev pub name_chosen : List (List ℕ) → Option ℕ → Option (List ℕ)
name_chosen known None = None
name_chosen known (Some place) = slice_get known place

-- what a response can be asked to name: nothing, or any name
abbrev pub CanBeNamed : Option (List ℕ) → Type 0
CanBeNamed name = IfSome name IsProtocolName

-- what a response may name: nothing, or one subprotocol that was offered
abbrev pub NamesOffered : List (List ℕ) → List (List ℕ) → Type 0
NamesOffered offers members = (members ≡ []) ⊎ ((name : List ℕ) × (members ≡ name ∷ []) × Contains offers name)
