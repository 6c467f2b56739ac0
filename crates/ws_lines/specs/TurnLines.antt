-- The lines of a transcript (RFC 6455 section 5.2): the frames that each end sent, by turns, as `show` has them.
use Rattle.std.specs.Prelude.{◌≡◌, ℕ, ◌+◌, ◌^◌, ◌<◌, ◌≤◌, List, [], ◌∷◌, ◌++◌, length, take, codes}
use Rattle.std.specs.List.{flat_map}
use Rattle.std.specs.Fmt.{decimal}
use Rattle.ws_wire.specs.declared.role.Role.{Role}
use Rattle.ws_lines.specs.declared.transcript_lines.Showing.{Showing}
use Rattle.ws_wire.specs.declared.role.Role.TheVariants.{Client, Server}
use Rattle.ws_frame.specs.declared.source.Source.{Source}
use Rattle.ws_frame.specs.declared.source.Mark.TheVariants.{Sent, Got}
use Rattle.ws_frame.specs.declared.showing.StreamEnd.{StreamEnd}
use Rattle.ws_frame.specs.Lines.{AreCertainLines, AreLinesOf}
use Rattle.ws_scripts.specs.declared.transcript.Turn.{Turn}
use Rattle.ws_scripts.specs.declared.transcript.Ended.{Ended}
use Rattle.ws_scripts.specs.declared.transcript.Ended.TheVariants.{Tester, Peer, Broken}
use Rattle.ws_scripts.specs.declared.transcript.Transcript.{Transcript}

-- the lines of one turn: those of what was sent, and those of what was got
pub record TurnLines : Type 0 where
  pub sent : List ℕ
  pub got : List ℕ

-- ---- one direction

-- a direction of a transcript: whose stream it is, and what of a turn, and of its lines, belongs to it
pub record Direction : Type 0 where
  pub source : Source
  pub bytes : Turn → List ℕ
  pub lines : TurnLines → List ℕ

-- all bytes of a direction in these turns, joined; and all its lines in them
abbrev pub bytes_in : Direction → List Turn → List ℕ
bytes_in direction turns = flat_map direction.bytes turns

abbrev pub lines_in : Direction → List TurnLines → List ℕ
lines_in direction lines = flat_map direction.lines lines

-- Each line of a direction stands in the turn that holds its frame's last byte, and that of a bad length in the turn
-- that holds its header's last byte: the lines up to the end of a turn are those that are certain of all bytes up to
-- there. Places count from the direction's first byte.
abbrev pub StandInTheirTurns : Direction → List Turn → List TurnLines → Type 0
StandInTheirTurns direction turns lines = (n : ℕ) → n ≤ length turns
    → AreCertainLines direction.source (bytes_in direction (take n turns)) (lines_in direction (take n lines))

-- what is written of a direction after all turns: with it, its lines are all lines of `show` for its bytes, joined, and
-- so this is the line of a cut, where the direction ends inside a frame, or nothing
abbrev pub IsCutLine : Direction → List Turn → List TurnLines → List ℕ → Type 0
IsCutLine direction turns lines last =
    (end : StreamEnd) × AreLinesOf direction.source (bytes_in direction turns) end (lines_in direction lines ++ last)

-- ---- both

-- the tester has the other role than the tested end
abbrev pub tester_of : Role → Role
tester_of Client = Server
tester_of Server = Client

-- what the tester sent; and what it got, which the tested end sent
abbrev pub sent_by_tester : Showing → Direction
sent_by_tester showing = record {
  source = record { from = tester_of showing.tested; mark = Sent; style = showing.style; fault = showing.sent_fault };
  bytes = λ turn. turn.sent;
  lines = λ lines. lines.sent;
}

abbrev pub got_by_tester : Showing → Direction
got_by_tester showing = record {
  source = record { from = showing.tested; mark = Got; style = showing.style; fault = showing.got_fault };
  bytes = λ turn. turn.got;
  lines = λ lines. lines.got;
}

-- the lines of turns that may go on: for each turn those of both directions
pub record AreTurnLines (showing : Showing) (turns : List Turn) (lines : List TurnLines) : Type 0 where
  pub one_each : length lines ≡ length turns
  pub sent : StandInTheirTurns (sent_by_tester showing) turns lines
  pub got : StandInTheirTurns (got_by_tester showing) turns lines

-- the line that begins a turn, by its number
abbrev pub turn_line : ℕ → List ℕ
turn_line number = codes "turn " ++ (decimal number ++ codes "\n")

-- each turn has its line, then the lines of what was sent, then those of what was got; the first turn has this number
abbrev pub turns_text : ℕ → List TurnLines → List ℕ
turns_text number [] = []
turns_text number (lines ∷ turns) = turn_line number ++ (lines.sent ++ (lines.got ++ turns_text (number + 1) turns))

-- the last line: who ended the connection
abbrev pub end_line : Ended → List ℕ
end_line Tester = codes "end tester\n"
end_line Peer = codes "end peer\n"
end_line Broken = codes "end broken\n"

-- The text is the lines of the transcript, shown so: those of each turn, counted from 1; then the line of a cut of what
-- was sent, and that of a cut of what was got, where there is one; then how it ended.
pub record HasTurnLines (showing : Showing) (transcript : Transcript) (text : List ℕ) : Type 0 where
  pub lines : List TurnLines
  pub are_lines : AreTurnLines showing transcript.turns lines
  pub sent_cut : List ℕ
  pub is_sent_cut : IsCutLine (sent_by_tester showing) transcript.turns lines sent_cut
  pub got_cut : List ℕ
  pub is_got_cut : IsCutLine (got_by_tester showing) transcript.turns lines got_cut
  pub all : text ≡ turns_text 1 lines ++ (sent_cut ++ (got_cut ++ end_line transcript.ended))

-- ---- what can be told

-- each place of a direction can be told by 64 bits
abbrev pub FitsPlaces : List Turn → Type 0
FitsPlaces turns =
    (length (flat_map (λ (turn : Turn). turn.sent) turns) < 2 ^ 64)
    × (length (flat_map (λ (turn : Turn). turn.got) turns) < 2 ^ 64)
