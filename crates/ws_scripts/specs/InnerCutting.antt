-- Inside the crate: how the bytes of a turn are held once, and where they are cut. A reader may skip this file.
use Rattle.std.specs.Prelude.{◌≡◌, ℕ, zero, suc, ◌+◌, ◌-◌, ◌<◌, ◌≤◌, List, [], ◌∷◌, length, take, drop}
use Rattle.std.specs.Int.{div_ceil}
use Rattle.std.specs.List.{concat, AllByRecursion}
use Rattle.ws_scripts.specs.declared.cut_turn.Cut.{Cut}
use Rattle.ws_scripts.specs.declared.cut_turn.Cut.TheVariants.{Every, At}
use Rattle.ws_scripts.specs.Scripts.{AreOctets, has_bytes}

-- the first pieces of n bytes each, so many of them
abbrev pub cut_every : ℕ → ℕ → List ℕ → List (List ℕ)
cut_every n zero bytes = []
cut_every n (suc count) bytes = take n bytes ∷ cut_every n count (drop n bytes)

-- the pieces that end at these places, of the bytes from a place on
abbrev pub cut_at : ℕ → List ℕ → List ℕ → List (List ℕ)
cut_at from [] bytes = []
cut_at from (end ∷ ends) bytes = take (end - from) bytes ∷ cut_at end ends (drop (end - from) bytes)

-- where each of the pieces ends
abbrev pub ends_of : ℕ → List (List ℕ) → List ℕ
ends_of from [] = []
ends_of from (piece ∷ pieces) = (from + length piece) ∷ ends_of (from + length piece) pieces

-- the bytes are those of the pieces, which end at these places
pub record AreEndsOf (pieces : List (List ℕ)) (bytes ends : List ℕ) : Type 0 where
  pub joined : concat pieces ≡ bytes
  pub ends_are : ends ≡ ends_of 0 pieces

-- the pieces of bytes that are cut so
abbrev pub pieces_of : Cut → List ℕ → List (List ℕ)
pieces_of (Every n) bytes = cut_every n (div_ceil (length bytes) n) bytes
pieces_of (At ends) bytes = cut_at 0 ends bytes

abbrev pub IsCut : Cut → List ℕ → Type 0
IsCut (Every n) bytes = 0 < n
IsCut (At ends) bytes = AreEndsOf (cut_at 0 ends bytes) bytes ends

-- joined the pieces are the bytes, none is empty, and each is n bytes, but that the last may be shorter
pub record IsCutEvery (n : ℕ) (bytes : List ℕ) (pieces : List (List ℕ)) : Type 0 where
  pub joined : concat pieces ≡ bytes
  pub none_empty : AllByRecursion has_bytes pieces
  pub octets : AreOctets n pieces
  pub whole : length bytes ≤ n → length pieces ≤ 1
