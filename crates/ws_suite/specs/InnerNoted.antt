-- Inside the crate: the highest number that is noted for each payload. A reader may skip this file.
use Rattle.std.specs.Prelude.{◌≡◌, ℕ, ◌+◌, ◌||◌, Bool, true, false, not, max, nat_lt, if◌then◌else◌}
use Rattle.std.specs.Prelude.{bytes_eq, is_some, List, Option, None, Some, ⊤}
use Rattle.std.specs.Borrow.{Bor}
use Rattle.std.specs.BTreeMap.{get_by}
use Rattle.std.specs.Cmp.Lexicographic.{slice_cmp}
use Rattle.std.specs.List.{AllByRecursion}
use Rattle.std.specs.Map.{update}
use Rattle.std.specs.Ordering.{nat_cmp}
use Rattle.ws_suite.specs.declared.evidence.InTurn.{InTurn}
use Rattle.ws_suite.specs.declared.evidence.Reply.{Reply}
use Rattle.ws_suite.specs.declared.judging.noted.Noted.{Noted}
use Rattle.ws_suite.specs.Matching.{payload_of}

-- one behind the highest number of this payload, where it has a place
abbrev pub noted_of : Noted → List ℕ → Option ℕ
noted_of noted payload = get_by (λ (k : Bor (List ℕ)). slice_cmp nat_cmp payload k.now) noted.ends

-- the payloads of these pongs have a place
abbrev pub HavePlaces : List (InTurn Reply) → Noted → Type 0
HavePlaces pongs noted = AllByRecursion (λ pong. is_some (noted_of noted (payload_of pong.what)) ≡ true) pongs

-- so it is, unless all payloads get one that have a number
abbrev pub IsAskedFor : List (InTurn Reply) → Noted → Type 0
IsAskedFor pongs noted = noted.has_all ≡ false → HavePlaces pongs noted

-- there is no number yet
abbrev pub IsNothing : Option ℕ → Type 0
IsNothing None = ⊤
IsNothing (Some end) = end ≡ 0

abbrev pub HoldsNothing : Noted → Type 0
HoldsNothing noted = (payload : List ℕ) → IsNothing (noted_of noted payload)

-- the higher of two numbers, where there is another one
abbrev pub highest : ℕ → Option ℕ → ℕ
highest number None = number
highest number (Some other) = max number other

-- what is known of a payload with one number more
abbrev pub with_number : Bool → ℕ → Option ℕ → Option ℕ
with_number has_all number known = if has_all || is_some known then Some (highest (number + 1) known) else None

-- a number was noted for this payload, and nothing for another one
pub record IsNotedIn (payload : List ℕ) (number : ℕ) (old new : Noted) : Type 0 where
  pub has_all : new.has_all ≡ old.has_all
  pub moved : (other : List ℕ) → noted_of new other
      ≡ update bytes_eq (λ (key : List ℕ). noted_of old key) payload
      (with_number old.has_all number (noted_of old payload)) other

-- this number or a higher one may have been noted for the payload of which this is known
abbrev pub reaches : Bool → ℕ → Option ℕ → Bool
reaches has_all number None = not has_all
reaches has_all number (Some end) = nat_lt number end
