-- Moves that are played one by one, at whatever link the two ends stood first.
use Rattle.std.proofs.Common.{◌≡◌, ◌∙◌, List, [], ◌∷◌, ◌++◌, ap, sym, subst, append_assoc}
use Rattle.ws_session.specs.Limits.{LimitsValue}
use Rattle.ws_pair.specs.declared.moves.Move.{Move}
use Rattle.ws_pair.specs.declared.report.Answer.{Answer}
use Rattle.ws_pair.specs.declared.report.Report.{Report}
use Rattle.ws_pair.specs.declared.playing.Player.{Player}
use Rattle.ws_pair.specs.Link.{BothLimits, Link, new_link}
use Rattle.ws_pair.specs.Moves.{IsMoveAnswered, Plays}
use Rattle.ws_pair.specs.Headline.{both_limits}
use Rattle.ws_pair.specs.Headline as claim
use Rattle.ws_pair.specs.InnerPlaying.{AreJoined, LawsOfEachSession}
use Rattle.ws_pair.specs.Runs.{HasPlayed, IsNewPlayer}
use Rattle.ws_pair.proofs.Headlines.{IsReportOf, are_claimed}
use Rattle.ws_pair.proofs.OnePlay.{plays_more}

-- the move was answered so, at any link as whose ends the two stood
abbrev pub Answers : Player → Move → Answer → Player → Type 0
Answers old move answer now = (limits : BothLimits) (link : Link) → AreJoined limits link old.client old.server
    → (after : Link) × IsMoveAnswered limits link move answer after × AreJoined limits after now.client now.server

-- one more move
pub one_more : (first old now : Player) (moves : List Move) (move : Move) (answer : Answer)
    → HasPlayed first moves old → Answers old move answer now → now.answers.items ≡ old.answers.items ++ answer ∷ []
    → HasPlayed first (moves ++ move ∷ []) now
one_more first old now moves move answer played answered told = record {
  stands =
      let s = played.stands in
      let t = answered s.limits s.link s.joined in
      record { limits = s.limits; link = t.0; joined = t.2 };
  plays = λ limits link joined.
      let p = played.plays limits link joined in
      let t = answered limits p.after p.joined in
      record {
        answers = p.answers ++ answer ∷ [];
        after = t.0;
        plays = plays_more limits link moves move p.answers answer p.after t.0 p.plays t.1;
        joined = t.2;
        told = told ∙ (ap (λ (l : List Answer). l ++ answer ∷ []) p.told ∙ append_assoc first.answers.items p.answers (answer ∷ []));
      };
}

-- what is reported of moves that were played at a player that was new
pub reported : (laws : LawsOfEachSession) (client server : LimitsValue) (first now : Player) (moves : List Move)
    (report : Report) → IsNewPlayer client server first → HasPlayed first moves now → report.answers.items ≡ now.answers.items
    → IsReportOf now.client report.client → IsReportOf now.server report.server
    → claim.IsReportOf client server moves report
reported laws client server first now moves report new played same of_client of_server =
    let limits = both_limits client server in
    let p = played.plays limits new_link new.joined in
    let all : report.answers.items ≡ p.answers = same ∙ (p.told ∙ ap (λ (l : List Answer). l ++ p.answers) new.answers) in
    let plays = subst (λ (l : List Answer). Plays limits new_link moves l p.after) (sym all) p.plays in
    let c = are_claimed laws limits moves now.client now.server report of_client of_server p.after plays p.joined in
    record {
      answers = (p.after, plays);
      delivered = c.delivered;
      clean = c.clean;
      nothing_after_close = c.nothing_after_close;
      put = c.put;
      reached = c.reached;
      status = c.status;
      session = c.session;
    }
