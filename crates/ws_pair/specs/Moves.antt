-- What each move does to two joined endpoints, and what is answered: RFC 6455 sections 5 to 7.
use Rattle.std.specs.Prelude.{◌≡◌, ℕ, ◌+◌, ◌-◌, min, true, if◌then◌else◌, List, [], ◌∷◌, ◌++◌, length, drop, map}
use Rattle.ws_wire.specs.Frame.{KeyedFrame, stream_bytes}
use Rattle.ws_session.specs.declared.event.Event.{Event}
use Rattle.ws_session.specs.Limits.{LimitsValue}
use Rattle.ws_session.specs.Faults.{frames_of}
use Rattle.ws_session.specs.Replies.{replies_of, under_key}
use Rattle.ws_session.specs.Sends.{Send, frame_of, close_owned, MaySend, IsFirstWrong}
use Rattle.ws_session.specs.Sends as send
use Rattle.ws_session.specs.Reach.{events_within}
use Rattle.ws_pair.specs.declared.moves.End.{End}
use Rattle.ws_pair.specs.declared.moves.Move.{Move}
use Rattle.ws_pair.specs.declared.moves.Move.TheVariants.{Begin, More, Ping, Pong, Close, Arrive, Cut}
use Rattle.ws_pair.specs.declared.report.Answer.{Answer}
use Rattle.ws_pair.specs.declared.report.Answer.TheVariants as outcome
use Rattle.ws_pair.specs.Link.{LinkEnd, Link, BothLimits, other, role_at, end_of, limits_at, with_end, status_at}

-- ---- a send

abbrev pub with_sent : LinkEnd → List KeyedFrame → LinkEnd
with_sent x frames = record x { sent = x.sent ++ frames }

-- the frame is sent where nothing is wrong with it, else the first thing that is wrong is answered and nothing changes
abbrev pub IsSendMoveAnswered : BothLimits → Link → End → Send → List ℕ → Answer → Link → Type 0
IsSendMoveAnswered limits link side what key outcome.Did after =
    MaySend (frames_of (end_of link side).sent) (status_at limits link side) what
    × (after ≡ with_end link side (with_sent (end_of link side) (under_key (role_at side) key (frame_of what) ∷ [])))
IsSendMoveAnswered limits link side what key (outcome.Refused fault) after =
    IsFirstWrong (frames_of (end_of link side).sent) (status_at limits link side) what fault × (after ≡ link)
IsSendMoveAnswered limits link side what key _ after = ⊥

-- ---- bytes that arrive

-- how many come: none behind a cut, and at most what the other has put
abbrev pub count_arriving : Link → End → ℕ → ℕ
count_arriving link side bytes =
    if (end_of link side).is_cut then 0
    else min bytes (length (stream_bytes (end_of link (other side)).sent) - (end_of link side).reached)

-- what more bytes of some frames tell
abbrev pub newly_told : LimitsValue → List KeyedFrame → ℕ → ℕ → List Event
newly_told limits xs before after = drop (length (events_within limits before xs)) (events_within limits after xs)

-- so many bytes of the other's have come to an end, and the frames that are owed for what they tell were sent
abbrev pub with_arrived : BothLimits → Link → End → ℕ → List ℕ → LinkEnd
with_arrived limits link side count key =
    let x : LinkEnd = end_of link side
    in let told : List Event =
    newly_told (limits_at limits side) (end_of link (other side)).sent x.reached (x.reached + count)
    in record {
      sent = x.sent ++ map (under_key (role_at side) key) (replies_of (frames_of x.sent) told);
      reached = x.reached + count;
      is_cut = x.is_cut;
    }

abbrev pub with_cut : LinkEnd → LinkEnd
with_cut x = record x { is_cut = true }

-- ---- all moves

-- the end at which a move happens
abbrev pub side_of : Move → End
side_of (Begin side kind payload fin key) = side
side_of (More side payload fin key) = side
side_of (Ping side payload key) = side
side_of (Pong side payload key) = side
side_of (Close side given key) = side
side_of (Arrive side bytes key) = side
side_of (Cut side) = side

abbrev pub IsMoveAnswered : BothLimits → Link → Move → Answer → Link → Type 0
IsMoveAnswered limits link (Begin side kind payload fin key) answer after =
    IsSendMoveAnswered limits link side (send.Begin kind payload fin) key answer after
IsMoveAnswered limits link (More side payload fin key) answer after =
    IsSendMoveAnswered limits link side (send.More payload fin) key answer after
IsMoveAnswered limits link (Ping side payload key) answer after =
    IsSendMoveAnswered limits link side (send.Ping payload) key answer after
IsMoveAnswered limits link (Pong side payload key) answer after =
    IsSendMoveAnswered limits link side (send.Pong payload) key answer after
IsMoveAnswered limits link (Close side given key) answer after =
    IsSendMoveAnswered limits link side (send.Close (close_owned given)) key answer after
IsMoveAnswered limits link (Arrive side bytes key) answer after =
    (answer ≡ outcome.Arrived (count_arriving link side bytes))
    × (after ≡ with_end link side (with_arrived limits link side (count_arriving link side bytes) key))
IsMoveAnswered limits link (Cut side) answer after =
    (answer ≡ outcome.Cut) × (after ≡ with_end link side (with_cut (end_of link side)))

-- one move after the other
abbrev pub Plays : BothLimits → Link → List Move → List Answer → Link → Type 0
Plays limits link [] answers after = (answers ≡ []) × (after ≡ link)
Plays limits link (move ∷ moves) [] after = ⊥
Plays limits link (move ∷ moves) (answer ∷ answers) after =
    (next : Link) × IsMoveAnswered limits link move answer next × Plays limits next moves answers after
