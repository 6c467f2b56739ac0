-- Runs of a script: the talk that a tester has with a peer, turn by turn, and the transcript of it.
use Rattle.std.specs.Prelude.{◌≡◌, ℕ, ◌<◌, ◌⊎◌, List, [], ◌∷◌, ◌++◌, length, map}
use Rattle.std.specs.List.{AllByRecursion, flat_map}
use Rattle.ws_scripts.specs.declared.transcript.Turn.{Turn}
use Rattle.ws_scripts.specs.declared.transcript.Transcript.{Transcript}
use Rattle.ws_scripts.specs.declared.transcript.Ended.TheVariants.{Tester, Peer}
use Rattle.ws_peer.specs.declared.peer.Going.TheVariants.{More, Ended}
use Rattle.ws_peer.specs.Talks.{Entry, Fed, Finished, PeerEnd, fed_in, appended_in}

-- ---- a talk, cut by turns

-- the calls of all turns, one after the other
abbrev pub joined_talk : List (List Entry) → List Entry
joined_talk parts = flat_map (λ (part : List Entry). part) parts

abbrev pub piece_fed : Entry → List (List ℕ)
piece_fed (Fed piece appended going) = piece ∷ []
piece_fed (Finished appended) = []

-- the pieces that were fed, in order
abbrev pub pieces_in : List Entry → List (List ℕ)
pieces_in part = flat_map piece_fed part

abbrev pub pieces_by_turn : List (List Entry) → List (List (List ℕ))
pieces_by_turn parts = map pieces_in parts

-- a piece was fed, and the peer goes on
abbrev pub PeerGoesOn : Entry → Type 0
PeerGoesOn (Fed piece appended going) = going ≡ More
PeerGoesOn (Finished appended) = ⊥

-- ---- the transcript

-- a turn of it: what was fed, and what was appended
abbrev pub turn_of : List Entry → Turn
turn_of part = record { sent = fed_in part; got = appended_in part }

-- What was appended at the finish counts to the last turn; where there is none, it is a turn in which nothing was sent,
-- if it is anything.
abbrev pub with_finish : List Turn → List ℕ → List Turn
with_finish [] [] = []
with_finish [] (byte ∷ bytes) = record { sent = []; got = byte ∷ bytes } ∷ []
with_finish (turn ∷ []) left = record { sent = turn.sent; got = turn.got ++ left } ∷ []
with_finish (turn ∷ next ∷ turns) left = turn ∷ with_finish (next ∷ turns) left

-- ---- runs of a script whose turns have these pieces

-- The tester ended the run: all pieces of all turns were fed, the peer went on after each, and then it was finished.
-- Nothing is asked of what it appended: that is the peer's own.
pub record EndsByTester (turns : List (List (List ℕ))) (talk : List Entry) (transcript : Transcript) : Type 0 where
  pub ended : transcript.ended ≡ Tester
  pub parts : List (List Entry)
  pub left : List ℕ
  pub talk_is : talk ≡ joined_talk parts ++ Finished left ∷ []
  pub goes_on : AllByRecursion PeerGoesOn (joined_talk parts)
  pub pieces : pieces_by_turn parts ≡ turns
  pub recorded : transcript.turns ≡ with_finish (map turn_of parts) left

-- some turns, and then the first pieces of the next one, at least one of them
pub record AreFirstPieces (fed turns : List (List (List ℕ))) : Type 0 where
  pub before : List (List (List ℕ))
  pub first : List (List ℕ)
  pub others : List (List ℕ)
  pub after : List (List (List ℕ))
  pub are_fed : fed ≡ before ++ first ∷ []
  pub are_turns : turns ≡ before ++ (first ++ others) ∷ after
  pub some : 0 < length first

-- The peer ended the run: it went on after each piece but the last that was fed, and at that one it ended. It isn't
-- finished.
pub record EndsByPeer (turns : List (List (List ℕ))) (talk : List Entry) (transcript : Transcript) : Type 0 where
  pub ended : transcript.ended ≡ Peer
  pub parts : List (List Entry)
  pub talk_is : talk ≡ joined_talk parts
  pub before : List Entry
  pub piece : List ℕ
  pub appended : List ℕ
  pub last : talk ≡ before ++ Fed piece appended Ended ∷ []
  pub goes_on : AllByRecursion PeerGoesOn before
  pub pieces : AreFirstPieces (pieces_by_turn parts) turns
  pub recorded : transcript.turns ≡ map turn_of parts

-- a run, by the tester or by the peer ended: no other end is recorded
abbrev pub IsRunOf : List (List (List ℕ)) → List Entry → Transcript → Type 0
IsRunOf turns talk transcript = EndsByTester turns talk transcript ⊎ EndsByPeer turns talk transcript

-- each talk that the peer may have had as some end, followed by this one, is one that it may have had afterwards as the
-- same end
abbrev pub Talked : {P : Type 0} → (P → PeerEnd → List Entry → Type 0) → P → P → List Entry → Type 0
Talked agrees old new talk =
    (end : PeerEnd) (before : List Entry) → agrees old end before → agrees new end (before ++ talk)
