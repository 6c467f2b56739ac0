-- What a tap is told of the two ends of its connection, in its order.
use Rattle.std.specs.Prelude.{◌≡◌, ℕ, ◌≤◌, Bool, true, false, List, [], ◌∷◌, ◌++◌, length, Option, Some, None}
use Rattle.ws_wire.specs.declared.role.Role.{Role}
use Rattle.ws_wire.specs.declared.role.Role.TheVariants.{Client, Server}

-- One thing that happened: these bytes came from this end; it ended its direction; it took these bytes, of those that
-- were to be written to it; the direction to it was ended.
pub data TapTold : Type 0 where
  CameFrom : Role → List ℕ → TapTold
  EndedBy : Role → TapTold
  TakenBy : Role → List ℕ → TapTold
  EndedTo : Role → TapTold

-- the other end
abbrev pub other_end : Role → Role
other_end Client = Server
other_end Server = Client

-- ---- one direction

-- what happened to a direction: what came from its end, and whether that has ended it; what of it the other end took,
-- and whether the direction to that was ended
pub record Passage : Type 0 where
  pub came : List ℕ
  pub ended : Bool
  pub taken : List ℕ
  pub passed : Bool

-- nothing
abbrev pub no_passage : Passage
no_passage = record { came = []; ended = false; taken = []; passed = false }

-- the first where both are the same end, else the second
abbrev pub where_same : Role → Role → Passage → Passage → Passage
where_same Client Client same other = same
where_same Client Server same other = other
where_same Server Client same other = other
where_same Server Server same other = same

-- the direction of this end behind one thing more
abbrev pub passage_after : Role → Passage → TapTold → Passage
passage_after role p (CameFrom from bytes) = where_same role from (record p { came = p.came ++ bytes }) p
passage_after role p (EndedBy from) = where_same role from (record p { ended = true }) p
passage_after role p (TakenBy to bytes) = where_same (other_end role) to (record p { taken = p.taken ++ bytes }) p
passage_after role p (EndedTo to) = where_same (other_end role) to (record p { passed = true }) p

abbrev pub passage_from : Role → Passage → List TapTold → Passage
passage_from role p [] = p
passage_from role p (event ∷ told) = passage_from role (passage_after role p event) told

-- all that happened to the direction of this end
abbrev pub passage : Role → List TapTold → Passage
passage role told = passage_from role no_passage told

-- A direction was passed on: what was taken is a beginning of what came, of which at most 65536 bytes are missing;
-- none where its end was passed on, which was told before.
pub record IsPassedOn (p : Passage) : Type 0 where
  pub rest : List ℕ
  pub begins : p.came ≡ p.taken ++ rest
  pub near : length rest ≤ 65536
  pub over : p.passed ≡ true → (p.ended ≡ true) × (rest ≡ [])

-- and so were both
pub record ArePassedOn (told : List TapTold) : Type 0 where
  pub client : IsPassedOn (passage Client told)
  pub server : IsPassedOn (passage Server told)

-- ---- the first end

-- the end that was first to end its direction, where one has
abbrev pub first_ended : List TapTold → Option Role
first_ended [] = None
first_ended (CameFrom from bytes ∷ told) = first_ended told
first_ended (EndedBy from ∷ told) = Some from
first_ended (TakenBy to bytes ∷ told) = first_ended told
first_ended (EndedTo to ∷ told) = first_ended told

-- ---- a front of it

-- the same, but of the bytes that came last only a beginning
pub record IsCutFrom (front told : List TapTold) : Type 0 where
  pub before : List TapTold
  pub from : Role
  pub first : List ℕ
  pub later : List ℕ
  pub is_front : front ≡ before ++ CameFrom from first ∷ []
  pub all : told ≡ before ++ CameFrom from (first ++ later) ∷ []
