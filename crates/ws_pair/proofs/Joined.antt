-- Two ends, move after move.
use Rattle.std.proofs.Common.{◌≡◌, ℕ, List, ◌++◌, sym, ap, ◌∙◌, subst}
use Rattle.ws_wire.specs.Frame.{KeyedFrame, stream_bytes}
use Rattle.ws_pair.specs.declared.moves.End.{End}
use Rattle.ws_pair.specs.declared.moves.End.TheVariants.{Client, Server}
use Rattle.ws_wire.specs.declared.role.Role.TheVariants as role
use Rattle.ws_pair.specs.declared.moves.Move.{Move}
use Rattle.ws_pair.specs.declared.report.Answer.{Answer}
use Rattle.ws_pair.specs.declared.endpoint.Endpoint.{Endpoint}
use Rattle.ws_pair.specs.Link.{Link, BothLimits, other, role_at, end_of, with_end}
use Rattle.ws_pair.specs.Moves.{side_of, IsMoveAnswered}
use Rattle.ws_pair.specs.InnerPlaying.{peer, AreSentBy, IsEnd, IsEndAt, HasMoved, AreJoined, LawsOfEachSession}
use Rattle.ws_pair.proofs.Ends.{beside}
use Rattle.ws_pair.proofs.Acting.{Acts}

-- what a move leads to
abbrev pub LeadsTo : BothLimits → Link → Move → Answer → Endpoint → Endpoint → Type 0
LeadsTo limits link move answer client server = (next : Link) × IsMoveAnswered limits link move answer next × AreJoined limits next client server

pub client_moves : (laws : LawsOfEachSession) (limits : BothLimits) (link : Link) (move : Move) (answer : Answer) (client after server : Endpoint) → side_of move ≡ Client → AreJoined limits link client server → HasMoved limits link move answer after → LeadsTo limits link move answer after server
client_moves laws limits link move answer client after server at j m =
    let next : Link = with_end link Client m.end in
    let here : with_end link (side_of move) m.end ≡ next = ap (λ (s : End). with_end link s m.end) at in
    let sent : m.end.sent ≡ link.client.sent ++ m.more = m.sent ∙ ap (λ (s : End). (end_of link s).sent ++ m.more) at in (
      next,
      subst (λ (l : Link). IsMoveAnswered limits link move answer l) here m.answered,
      record {
        client_stands = subst (λ (s : End). IsEndAt limits (with_end link s m.end) s after) at m.stands;
        server_stands = subst (λ (l : List KeyedFrame). IsEnd role.Server limits.server link.server l server) (sym sent) (beside laws role.Server limits.server link.server link.client.sent m.more server j.server_stands);
      },
    )

pub server_moves : (laws : LawsOfEachSession) (limits : BothLimits) (link : Link) (move : Move) (answer : Answer) (client server after : Endpoint) → side_of move ≡ Server → AreJoined limits link client server → HasMoved limits link move answer after → LeadsTo limits link move answer client after
server_moves laws limits link move answer client server after at j m =
    let next : Link = with_end link Server m.end in
    let here : with_end link (side_of move) m.end ≡ next = ap (λ (s : End). with_end link s m.end) at in
    let sent : m.end.sent ≡ link.server.sent ++ m.more = m.sent ∙ ap (λ (s : End). (end_of link s).sent ++ m.more) at in (
      next,
      subst (λ (l : Link). IsMoveAnswered limits link move answer l) here m.answered,
      record {
        client_stands = subst (λ (l : List KeyedFrame). IsEnd role.Client limits.client link.client l client) (sym sent) (beside laws role.Client limits.client link.client link.server.sent m.more client j.client_stands);
        server_stands = subst (λ (s : End). IsEndAt limits (with_end link s m.end) s after) at m.stands;
      },
    )

-- a move promises something at its own end
pub acts_at_client : (v w : Endpoint) (others : List ℕ) (answer : Answer) (move : Move) → side_of move ≡ Client → Acts v w others answer move
    → (limits : BothLimits) (link : Link) (server : Endpoint) → AreJoined limits link v server → others ≡ server.put.items → HasMoved limits link move answer w
acts_at_client v w others answer move at acts limits link server j is =
    acts limits link (subst (λ (s : End). IsEndAt limits link s v) (sym at) j.client_stands)
    (subst (λ (s : End). AreSentBy (peer (role_at s)) (end_of link (other s)).sent) (sym at) j.server_stands.sent)
    (subst (λ (s : End). others ≡ stream_bytes (end_of link (other s)).sent) (sym at) (is ∙ j.server_stands.put))

pub acts_at_server : (v w : Endpoint) (others : List ℕ) (answer : Answer) (move : Move) → side_of move ≡ Server → Acts v w others answer move
    → (limits : BothLimits) (link : Link) (client : Endpoint) → AreJoined limits link client v → others ≡ client.put.items → HasMoved limits link move answer w
acts_at_server v w others answer move at acts limits link client j is =
    acts limits link (subst (λ (s : End). IsEndAt limits link s v) (sym at) j.server_stands)
    (subst (λ (s : End). AreSentBy (peer (role_at s)) (end_of link (other s)).sent) (sym at) j.client_stands.sent)
    (subst (λ (s : End). others ≡ stream_bytes (end_of link (other s)).sent) (sym at) (is ∙ j.client_stands.put))
