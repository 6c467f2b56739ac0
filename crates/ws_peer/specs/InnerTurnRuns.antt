-- Inside the crate: the run of one turn. A reader may skip this file.
use Rattle.std.specs.Prelude.{◌≡◌, ℕ, List, [], ◌∷◌, ◌++◌}
use Rattle.std.specs.List.{AllByRecursion}
use Rattle.ws_scripts.specs.declared.transcript.Turn.{Turn}
use Rattle.ws_peer.specs.declared.peer.Going.{Going}
use Rattle.ws_peer.specs.declared.peer.Going.TheVariants.{More, Ended}
use Rattle.ws_peer.specs.Talks.{Entry, Fed}
use Rattle.ws_peer.specs.Runs.{PeerGoesOn, pieces_in, turn_of}

-- all of these pieces were fed, and the peer goes on
pub record GoesOnAfter (pieces : List (List ℕ)) (part : List Entry) : Type 0 where
  pub all : pieces_in part ≡ pieces
  pub goes_on : AllByRecursion PeerGoesOn part

-- the peer ended at one of the pieces, and none was fed after it
pub record PeerEndsWithin (pieces : List (List ℕ)) (part : List Entry) : Type 0 where
  pub others : List (List ℕ)
  pub some : pieces ≡ pieces_in part ++ others
  pub before : List Entry
  pub piece : List ℕ
  pub appended : List ℕ
  pub last : part ≡ before ++ Fed piece appended Ended ∷ []
  pub goes_on : AllByRecursion PeerGoesOn before

-- at the end of the turn the peer goes on, or it has ended
abbrev pub TurnEndsBy : Going → List (List ℕ) → List Entry → Type 0
TurnEndsBy More pieces part = GoesOnAfter pieces part
TurnEndsBy Ended pieces part = PeerEndsWithin pieces part

-- the calls of a turn with these pieces, and what is recorded of them
pub record IsTurnRun (pieces : List (List ℕ)) (part : List Entry) (turn : Turn) (going : Going) : Type 0 where
  pub ends : TurnEndsBy going pieces part
  pub recorded : turn ≡ turn_of part
