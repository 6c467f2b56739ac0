-- What a script has still to send: the pieces of the turn under way, and those of the turns after it.
use Rattle.std.specs.Prelude.{ℕ, ◌≤◌, List, [], ◌∷◌, ◌++◌, length, drop}
use Rattle.std.specs.List.{AllByRecursion}
use Rattle.ws_scripts.specs.Scripts.{has_bytes, without_empty}

-- pieces of a turn, in order, each to be sent in one write where it is taken so
abbrev pub Pieces : Type 0
Pieces = List (List ℕ)

-- what is left of the pieces of the turn under way, the first of them perhaps sent in part; and the turns after it
pub record OutgoingValue : Type 0 where
  pub rest : Pieces
  pub later : List Pieces

-- no piece is empty: so where no piece is left, no byte is
abbrev pub HaveBytes : List Pieces → Type 0
HaveBytes turns = AllByRecursion (λ (pieces : Pieces). AllByRecursion has_bytes pieces) turns

-- the first piece, nothing where there is none
abbrev pub first_piece : Pieces → List ℕ
first_piece [] = []
first_piece (piece ∷ pieces) = piece

-- the pieces without so many bytes of the first
abbrev pub without_front : ℕ → Pieces → Pieces
without_front count [] = []
without_front count (piece ∷ pieces) = without_empty (drop count piece ∷ []) ++ pieces

-- the pieces of the first of these turns, and the turns after it
abbrev pub first_turn : List Pieces → Pieces
first_turn [] = []
first_turn (pieces ∷ turns) = pieces

abbrev pub after_first : List Pieces → List Pieces
after_first [] = []
after_first (pieces ∷ turns) = turns

-- so many bytes of the first piece are sent
abbrev pub pieces_left : ℕ → Pieces → Pieces
pieces_left sent [] = []
pieces_left sent (piece ∷ pieces) = drop sent piece ∷ pieces

-- no more of the first piece was sent than it has
abbrev pub FitsPiece : ℕ → Pieces → Type 0
FitsPiece sent pieces = sent ≤ length (first_piece pieces)

-- the next turn is under way
abbrev pub next_outgoing : OutgoingValue → OutgoingValue
next_outgoing outgoing = record { rest = first_turn outgoing.later; later = after_first outgoing.later }
