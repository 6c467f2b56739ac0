-- Which turns of a run were told: what is certain of them, so that it stays.
use Rattle.std.specs.Prelude.{◌≡◌, ℕ, ◌⊎◌, Bool, true, false, List, [], ◌∷◌, ◌++◌, length}
use Rattle.ws_scripts.specs.declared.transcript.Turn.{Turn}
use Rattle.ws_tester.specs.RunStates.{RunState, wanted_in}
use Rattle.ws_shown.specs.declared.turns_told.TurnsTold.{TurnsTold}

-- of a turn this was told: nothing, or what it has sent and so many bytes that it has got
abbrev pub IsPartOf : Bool → ℕ → Turn → List Turn → Type 0
IsPartOf false got turn part = part ≡ []
IsPartOf true got turn part = (front : List ℕ) × (others : List ℕ) × (turn.got ≡ front ++ others)
    × (length front ≡ got) × (part ≡ record { sent = turn.sent; got = front } ∷ [])

-- these turns were told to their end, and of the one after them a part, which is one of those that are over
pub record IsToldInPast (told : TurnsTold) (past turns : List Turn) : Type 0 where
  pub before : List Turn
  pub now : Turn
  pub after : List Turn
  pub part : List Turn
  pub parts : past ≡ before ++ now ∷ after
  pub count : length before ≡ told.whole
  pub is_part : IsPartOf told.is_sent told.got now part
  pub turns_are : turns ≡ before ++ part

-- or all of those that are over, and of the one under way a part
pub record IsToldAtTurn (told : TurnsTold) (past : List Turn) (turn : Turn) (turns : List Turn) : Type 0 where
  pub part : List Turn
  pub count : length past ≡ told.whole
  pub is_part : IsPartOf told.is_sent told.got turn part
  pub turns_are : turns ≡ past ++ part

-- so far
abbrev pub IsToldSoFar : TurnsTold → List Turn → Turn → List Turn → Type 0
IsToldSoFar told past turn turns = IsToldInPast told past turns ⊎ IsToldAtTurn told past turn turns

-- of a turn that is under way nothing is told before all of it is sent
pub record IsToldAtSent (told : TurnsTold) (x : RunState) (turns : List Turn) : Type 0 where
  pub at : IsToldAtTurn told x.past x.turn turns
  pub is_sent : told.is_sent ≡ true → (wanted_in x).write ≡ []

-- these turns of a run were told
abbrev pub IsToldOfRun : TurnsTold → RunState → List Turn → Type 0
IsToldOfRun told x turns = IsToldInPast told x.past turns ⊎ IsToldAtSent told x turns
