-- Where a server is, and what a request asks it for, as a word names both (RFC 6455 sections 3 and 4.1).
use Rattle.std.specs.Prelude.{◌≡◌, ℕ, ◌⊎◌, ◌==◌, ◌||◌, Bool, List, [], ◌∷◌, take, drop, codes, IsTrue, ⊤, if◌then◌else◌}
use Rattle.std.specs.List.{before_first, position_or_len}
use Rattle.std.specs.Str.{str_eq_ignore_ascii_case}
use Rattle.std.specs.Str.Iter.{HasSubslice}
use Rattle.ws_upgrade.specs.Texts.{IsHost, IsPath, slash}
use Rattle.ws_targets.specs.Places.{IsPlace, at_sign, has_byte}
use Rattle.ws_targets.specs.declared.target.TargetFault.{TargetFault}
use Rattle.ws_targets.specs.declared.target.TargetFault.TheVariants.{Bad, NoMemory}

-- where a server is, and what a request asks it for
pub record TargetValue : Type 0 where
  -- what a connection is made to: a host, a colon and a port
  pub address : List ℕ
  -- what the request calls the server
  pub host : List ℕ
  -- the path and the query that the request asks for
  pub path : List ℕ

-- a byte that ends the authority of a URL: / ? #
abbrev pub ends_authority : ℕ → Bool
ends_authority byte = byte == 47 || byte == 63 || byte == 35

-- the authority of a URL, by what stands behind ws://
abbrev pub authority_of : List ℕ → List ℕ
authority_of rest = before_first ends_authority rest

-- what stands behind the authority
abbrev pub resource_of : List ℕ → List ℕ
resource_of rest = drop (position_or_len ends_authority rest) rest

-- what is asked for: a slash stands first, also where the URL has none
abbrev pub path_of : List ℕ → List ℕ
path_of [] = slash ∷ []
path_of (first ∷ others) = if first == slash then first ∷ others else slash ∷ first ∷ others

-- a URL begins so, in any case
abbrev pub HasScheme : List ℕ → Type 0
HasScheme text = IsTrue (str_eq_ignore_ascii_case (take 5 text) (codes "ws://"))

-- the URL names the target
pub record IsUrlOf (text : List ℕ) (target : TargetValue) : Type 0 where
  pub scheme : HasScheme text
  pub no_user : ¬ (IsTrue (has_byte at_sign (authority_of (drop 5 text))))
  pub place : IsPlace (authority_of (drop 5 text)) target.host target.address
  pub path : target.path ≡ path_of (resource_of (drop 5 text))

-- a host and a port, which are both connected to and asked for, at the path /
abbrev pub IsHostAndPort : List ℕ → TargetValue → Type 0
IsHostAndPort text target = (target.address ≡ text) × (target.host ≡ text) × (target.path ≡ slash ∷ [])

-- a word with :// is a URL, another one a host and a port
abbrev pub IsOfItsKind : List ℕ → TargetValue → Type 0
IsOfItsKind text target =
    (HasSubslice text (codes "://") × IsUrlOf text target)
    ⊎ (¬ (HasSubslice text (codes "://")) × IsHostAndPort text target)

-- the word names the target, and its host and path can be asked for
pub record IsTargetText (text : List ℕ) (target : TargetValue) : Type 0 where
  pub kind : IsOfItsKind text target
  pub host : IsHost target.host
  pub path : IsPath target.path

-- a word names no target, or memory ran out
abbrev pub NamesNoTarget : List ℕ → TargetFault → Type 0
NamesNoTarget text Bad = (target : TargetValue) → IsTargetText text target → ⊥
NamesNoTarget text NoMemory = ⊤

-- the target to which a connection is made at this address
abbrev pub connected_at : List ℕ → TargetValue → TargetValue
connected_at address target = record { address = address; host = target.host; path = target.path }

-- a word that begins as a URL whose connection is encrypted
abbrev pub begins_with_wss : List ℕ → Bool
begins_with_wss text = str_eq_ignore_ascii_case (take 4 text) (codes "wss:")
