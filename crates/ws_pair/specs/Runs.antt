-- Moves that are played one by one, and a run over a script of them.
use Rattle.std.specs.Prelude.{◌≡◌, ℕ, List, [], ◌++◌}
use Rattle.ws_session.specs.Limits.{LimitsValue}
use Rattle.ws_pair.specs.declared.moves.Move.{Move}
use Rattle.ws_pair.specs.declared.report.Answer.{Answer}
use Rattle.ws_pair.specs.declared.report.Report.{Report}
use Rattle.ws_pair.specs.declared.playing.Player.{Player}
use Rattle.ws_pair.specs.Link.{BothLimits, Link, new_link}
use Rattle.ws_pair.specs.Moves.{Plays}
use Rattle.ws_pair.specs.Headline.{IsReportOf, both_limits}
use Rattle.ws_pair.specs.InnerPlaying.{AreJoined}
use Rattle.ws_pair.specs.Script.{AreMoveLines}

-- the text is a script, and this is the report of its moves
abbrev pub IsScriptReport : LimitsValue → LimitsValue → List ℕ → Report → Type 0
IsScriptReport client server text report = (moves : List Move) × AreMoveLines moves text
    × IsReportOf client server moves report

-- nothing has happened at its two ends, which take so much at most
pub record IsNewPlayer (client server : LimitsValue) (player : Player) : Type 0 where
  pub joined : AreJoined (both_limits client server) new_link player.client player.server
  pub answers : player.answers.items ≡ []

-- its ends stand as those of some link
pub record StandsSomewhere (player : Player) : Type 0 where
  pub limits : BothLimits
  pub link : Link
  pub joined : AreJoined limits link player.client player.server

-- from this link the moves lead to one as whose ends those of `now` stand, and are answered behind the answers before
pub record PlaysFrom (limits : BothLimits) (link : Link) (first : Player) (moves : List Move) (now : Player)
    : Type 0 where
  pub answers : List Answer
  pub after : Link
  pub plays : Plays limits link moves answers after
  pub joined : AreJoined limits after now.client now.server
  pub told : now.answers.items ≡ first.answers.items ++ answers

-- the second is what the first has become by these moves, at whatever link that stood
pub record HasPlayed (first : Player) (moves : List Move) (now : Player) : Type 0 where
  pub stands : StandsSomewhere now
  pub plays : (limits : BothLimits) (link : Link) → AreJoined limits link first.client first.server
      → PlaysFrom limits link first moves now
