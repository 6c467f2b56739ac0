-- A room in which the lines of a run wait until they are taken.
use Rattle.std.specs.Prelude.{◌≡◌, ℕ, List, [], ◌∷◌, ◌++◌, Option, Some, None}
use Rattle.std.specs.Global.{Box}
use Rattle.ws_scripts.specs.declared.transcript.Ended.{Ended}
use Rattle.ws_scripts.specs.declared.transcript.Turn.{Turn}
use Rattle.ws_lines.specs.Telling.{begun_turn, with_got}
use Rattle.ws_lines.specs.declared.transcript_lines.Showing.{Showing}
use Rattle.ws_shown.specs.declared.line_room.LineParts.{LineParts}
use Rattle.ws_shown.specs.declared.marked_lines.MarkedLines.{MarkedLines}
use Rattle.ws_shown.specs.MarkedLines.{AreCounted, AreMarkedLines, HasToldMarked}

-- The lines of these turns, shown so, were written; before the first turn there need be none that write them.
abbrev pub HaveTold : Showing → Option (Box MarkedLines) → List Turn → List ℕ → Type 0
HaveTold showing None turns written = (turns ≡ []) × (written ≡ [])
HaveTold showing (Some lines) turns written = HasToldMarked showing lines.value turns written

-- these have written what those had
abbrev pub AreMadeOf : Showing → Option (Box MarkedLines) → MarkedLines → Type 0
AreMadeOf showing old made = (turns : List Turn) (written : List ℕ) → HaveTold showing old turns written
    → HasToldMarked showing made turns written

-- The lines of these turns, shown so, of which the last may go on, are those that were taken, and those that wait
-- behind them.
pub record AreLinesBehind (showing : Showing) (parts : LineParts) (turns : List Turn) (taken : List ℕ) : Type 0 where
  pub told : HaveTold showing parts.lines turns (taken ++ parts.bytes.items)
  pub counted : AreCounted parts.places turns

-- they are lines of some turns, of which some were taken
abbrev pub AreSound : Showing → LineParts → Type 0
AreSound showing parts = (turns : List Turn) × (taken : List ℕ) × AreLinesBehind showing parts turns taken

-- some turn has begun
abbrev pub AreInTurn : Showing → LineParts → Type 0
AreInTurn showing parts = (turns : List Turn) × (turn : Turn) × (taken : List ℕ)
    × AreLinesBehind showing parts (turns ++ turn ∷ []) taken

-- the room, as contracts see it: how lines are shown, and what was told of them
pub record LineRoomValue : Type 0 where
  pub showing : Showing
  pub parts : LineParts

-- these turns were told, of which the last may go on, and these of their lines were taken; the others wait
abbrev pub HasLinesOf : LineRoomValue → List Turn → List ℕ → Type 0
HasLinesOf room turns taken = AreLinesBehind room.showing room.parts turns taken

-- ---- what is told

-- a turn begins in which these bytes are sent
abbrev pub TakesTurn : Showing → LineParts → LineParts → List ℕ → Type 0
TakesTurn showing old new sent = (turns : List Turn) (taken : List ℕ)
    → AreLinesBehind showing old turns taken → AreLinesBehind showing new (turns ++ begun_turn sent ∷ []) taken

-- in the last turn more bytes are got
abbrev pub TakesGot : Showing → LineParts → LineParts → List ℕ → Type 0
TakesGot showing old new piece = (turns : List Turn) (turn : Turn) (taken : List ℕ)
    → AreLinesBehind showing old (turns ++ turn ∷ []) taken
    → AreLinesBehind showing new (turns ++ with_got turn piece ∷ []) taken

-- where a turn has begun all stays as it was
abbrev pub KeepsTurn : Showing → LineParts → LineParts → Type 0
KeepsTurn showing old new = (turns : List Turn) (turn : Turn) (taken : List ℕ)
    → AreLinesBehind showing old (turns ++ turn ∷ []) taken → AreLinesBehind showing new (turns ++ turn ∷ []) taken

-- what was told of some turns is told on, and is then that of these
abbrev pub LinesGoOn : List Turn → List Turn → LineRoomValue → LineRoomValue → Type 0
LinesGoOn old_turns new_turns old new = (taken : List ℕ) → HasLinesOf old old_turns taken
    → HasLinesOf new new_turns taken

abbrev pub ShowsTurn : LineRoomValue → LineRoomValue → List ℕ → Type 0
ShowsTurn old new sent = (new.showing ≡ old.showing)
    × ((turns : List Turn) → LinesGoOn turns (turns ++ begun_turn sent ∷ []) old new)

abbrev pub ShowsGot : LineRoomValue → LineRoomValue → List ℕ → Type 0
ShowsGot old new piece = (new.showing ≡ old.showing)
    × ((turns : List Turn) (turn : Turn) → LinesGoOn (turns ++ turn ∷ []) (turns ++ with_got turn piece ∷ []) old new)

-- the lines that waited were taken, and none wait now
abbrev pub HasCleared : LineRoomValue → LineRoomValue → Type 0
HasCleared old new = (new.showing ≡ old.showing) × ((new.parts.bytes.items ≡ []) × ((turns : List Turn)
    (taken : List ℕ) → HasLinesOf old turns taken → HasLinesOf new turns (taken ++ old.parts.bytes.items)))

-- these lines are the last of a run that has ended so: with those that were taken they are all lines of its transcript
abbrev pub EndsLines : Showing → LineParts → Ended → List ℕ → Type 0
EndsLines showing parts ended last = (turns : List Turn) (taken : List ℕ)
    → AreLinesBehind showing parts turns taken
    → AreMarkedLines showing (record { turns = turns; ended = ended }) (taken ++ last)
