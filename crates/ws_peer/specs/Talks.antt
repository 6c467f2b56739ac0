-- Talks of a tester with a peer: what the peer was fed, what it sent for that, and whether it went on.
use Rattle.std.specs.Prelude.{◌≡◌, ℕ, List, [], ◌∷◌, ◌++◌}
use Rattle.std.specs.List.{flat_map}
use Rattle.ws_wire.specs.declared.role.Role.{Role}
use Rattle.ws_sends.specs.declared.keyed_send.KeyedSend.{KeyedSend}
use Rattle.ws_peer.specs.declared.peer.Going.{Going}

-- One call: a piece was fed, the peer appended these bytes and went on or ended; or it was told that no more comes, and
-- appended these bytes.
pub data Entry : Type 0 where
  Fed : List ℕ → List ℕ → Going → Entry
  Finished : List ℕ → Entry

-- ---- what was said in a talk

abbrev pub fed_by : Entry → List ℕ
fed_by (Fed piece appended going) = piece
fed_by (Finished appended) = []

abbrev pub appended_by : Entry → List ℕ
appended_by (Fed piece appended going) = appended
appended_by (Finished appended) = appended

-- all that was fed, and all that was appended, one after the other
abbrev pub fed_in : List Entry → List ℕ
fed_in talk = flat_map fed_by talk

abbrev pub appended_in : List Entry → List ℕ
appended_in talk = flat_map appended_by talk

-- ---- calls

-- a step of a plan: how many of the bytes that it was fed a peer takes at most, and what it sends then by itself
pub record PlannedStep : Type 0 where
  pub takes : ℕ
  pub sends : List KeyedSend

-- which end of the connection a peer is, the key with which it masks what it sends where it is the client, and its
-- plan: a step for each time that it is fed, and none where it takes all and sends nothing by itself
pub record PeerEnd : Type 0 where
  pub role : Role
  pub key : List ℕ
  pub plan : List PlannedStep

-- one call of a peer: it appends some bytes, and each talk that the peer may have had as some end, followed by the
-- entry of the call, is one that it may have had afterwards as the same end
pub record Says {P : Type 0} (agrees : P → PeerEnd → List Entry → Type 0) (old new : P) (entry : List ℕ → Entry)
    (before after : List ℕ) : Type 0 where
  pub appended : List ℕ
  pub grown : after ≡ before ++ appended
  pub leads : (end : PeerEnd) (talk : List Entry) → agrees old end talk → agrees new end (talk ++ entry appended ∷ [])
