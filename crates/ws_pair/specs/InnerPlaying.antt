-- Inside the crate: an endpoint as an end of a link, for contracts of private functions. A reader may skip this file.
use Rattle.std.specs.Prelude.{◌≡◌, ℕ, ◌+◌, ◌≤◌, true, List, [], ◌∷◌, ◌++◌, length, take, drop, map, Result, Ok}
use Rattle.std.specs.Prelude.{Err, None}
use Rattle.std.specs.List.{AllByRecursion}
use Rattle.ws_wire.specs.declared.role.Role.{Role}
use Rattle.ws_wire.specs.declared.role.Role.TheVariants as role
use Rattle.ws_wire.specs.Header.{AreBytes, IsMaskingKey}
use Rattle.ws_wire.specs.Frame.{Frame, KeyedFrame, FitsTheLayout, stream_bytes}
use Rattle.ws_session.specs.declared.event.Event.{Event}
use Rattle.ws_session.specs.declared.send_fault.SendFault.{SendFault}
use Rattle.ws_session.specs.declared.send_fault.SendFault.TheVariants as fault
use Rattle.ws_session.specs.Limits.{LimitsValue}
use Rattle.ws_session.specs.Messages.{messages_of}
use Rattle.ws_session.specs.Validity.{AreValidFrames}
use Rattle.ws_session.specs.Faults.{frames_of, KeysFit}
use Rattle.ws_session.specs.Replies.{has_close, replies_of, key_for, under_key}
use Rattle.ws_session.specs.Events.{HasEvents, events_after, messages_in}
use Rattle.ws_session.specs.Sends.{Send, frame_of, most_limits, HasTextReason, MaySend}
use Rattle.ws_session.specs.declared.status.Status.{Status}
use Rattle.ws_session.specs.Exchange.{HasExchanged}
use Rattle.ws_session.specs.Reach.{frames_within, size_fault, events_within}
use Rattle.ws_pair.specs.declared.moves.End.{End}
use Rattle.ws_pair.specs.declared.moves.End.TheVariants.{Client, Server}
use Rattle.ws_pair.specs.declared.moves.Move.{Move}
use Rattle.ws_pair.specs.declared.report.Answer.{Answer}
use Rattle.ws_pair.specs.declared.report.Answer.TheVariants as outcome
use Rattle.ws_pair.specs.declared.endpoint.Endpoint.{Endpoint}
use Rattle.ws_pair.specs.Link.{LinkEnd, Link, BothLimits, other, role_at, end_of, limits_at, with_end}
use Rattle.ws_pair.specs.Moves.{newly_told, side_of, IsSendMoveAnswered, IsMoveAnswered}

-- ---- sends

-- what a send that is done or refused is answered with; want of memory ends the run
abbrev pub IsToldOf : {X : Type 0} → Result X SendFault → Answer → Type 0
IsToldOf (Ok done) answer = answer ≡ outcome.Did
IsToldOf (Err fault.NoMemory) answer = ⊥
IsToldOf (Err why) answer = answer ≡ outcome.Refused why

-- ---- an end

abbrev pub peer : Role → Role
peer role.Client = role.Server
peer role.Server = role.Client

-- what an end of this role can have sent
pub record AreSentBy (role : Role) (xs : List KeyedFrame) : Type 0 where
  pub can : AllByRecursion FitsTheLayout xs
  pub keys : KeysFit (peer role) xs
  pub valid : AreValidFrames most_limits (frames_of xs)

-- the endpoint stands as this end, whose peer has sent these frames
pub record IsEnd (role : Role) (limits : LimitsValue) (x : LinkEnd) (others : List KeyedFrame) (v : Endpoint)
    : Type 0 where
  pub role_kept : v.session.role ≡ role
  pub limits_kept : v.session.limits ≡ limits
  pub put : v.put.items ≡ stream_bytes x.sent
  pub reached : v.reached ≡ x.reached
  pub within : x.reached ≤ length (stream_bytes others)
  pub delivered : v.delivered.items ≡ messages_of (frames_of (frames_within limits x.reached others))
  pub is_cut : v.is_cut ≡ x.is_cut
  pub exchanged : HasExchanged v.session (frames_of x.sent) (take x.reached (stream_bytes others)) x.is_cut
  pub sent : AreSentBy role x.sent

-- the end once so many more bytes have come, each frame answered under this key
abbrev pub grown : Role → LimitsValue → LinkEnd → List KeyedFrame → ℕ → List ℕ → LinkEnd
grown role limits x others count key = record {
  sent = x.sent ++ map (under_key role key)
      (replies_of (frames_of x.sent) (newly_told limits others x.reached (x.reached + count)));
  reached = x.reached + count;
  is_cut = x.is_cut;
}

-- the endpoint stands as the end on this side of a link
abbrev pub IsEndAt : BothLimits → Link → End → Endpoint → Type 0
IsEndAt limits link side v =
    IsEnd (role_at side) (limits_at limits side) (end_of link side) (end_of link (other side)).sent v

-- the endpoint stands as the end after a send on this side, and nothing that was sent is taken back
pub record HasSentMove (limits : BothLimits) (link : Link) (side : End) (what : Send) (key : List ℕ) (answer : Answer)
    (v : Endpoint) : Type 0 where
  pub end : LinkEnd
  pub answered : IsSendMoveAnswered limits link side what key answer (with_end link side end)
  pub stands : IsEndAt limits (with_end link side end) side v
  pub more : List KeyedFrame
  pub sent : end.sent ≡ (end_of link side).sent ++ more

-- the endpoint stands as the end after a move on its side, and nothing that was sent is taken back
pub record HasMoved (limits : BothLimits) (link : Link) (move : Move) (answer : Answer) (v : Endpoint) : Type 0 where
  pub end : LinkEnd
  pub answered : IsMoveAnswered limits link move answer (with_end link (side_of move) end)
  pub stands : IsEndAt limits (with_end link (side_of move) end) (side_of move) v
  pub more : List KeyedFrame
  pub sent : end.sent ≡ (end_of link (side_of move)).sent ++ more

-- both endpoints stand as the ends of a link
pub record AreJoined (limits : BothLimits) (link : Link) (client server : Endpoint) : Type 0 where
  pub client_stands : IsEndAt limits link Client client
  pub server_stands : IsEndAt limits link Server server

-- ---- laws of sessions

-- the laws of the layer below, as far as they serve here
pub record LawsOfEachSession : Type 0 where
  pub one_list : (role : Role) (limits : LimitsValue) (bytes : List ℕ) (events others : List Event)
      → HasEvents role limits bytes events → HasEvents role limits bytes others → events ≡ others
  pub go_on : (role : Role) (limits : LimitsValue) (bytes more : List ℕ) (events all : List Event)
      → HasEvents role limits bytes events → HasEvents role limits (bytes ++ more) all
      → (later : List Event) × (all ≡ events ++ later)
  pub replies : (sent : List Frame) (events later : List Event)
      → replies_of sent (events ++ later) ≡ replies_of sent events ++ replies_of (sent ++ replies_of sent events) later
  pub frames_stay : (limits : LimitsValue) (n : ℕ) (xs more : List KeyedFrame)
      → n ≤ length (stream_bytes xs) → frames_within limits n (xs ++ more) ≡ frames_within limits n xs
  pub after_close : (limits most : LimitsValue) (n m : ℕ) (xs : List KeyedFrame)
      → n ≤ m → AreValidFrames most (frames_of xs) → has_close (frames_of (frames_within limits n xs)) ≡ true
      → (frames_within limits m xs ≡ xs) × (size_fault limits m xs ≡ None)
  pub told : (role : Role) (limits most : LimitsValue) (n : ℕ) (xs : List KeyedFrame)
      → AllByRecursion FitsTheLayout xs → KeysFit role xs → AreValidFrames most (frames_of xs)
      → HasEvents role limits (take n (stream_bytes xs)) (events_within limits n xs)
  pub messages : (frames : List Frame) → messages_in (events_after [] frames) ≡ messages_of frames
  pub sends_stay : (sent : List Frame) (status : Status) (what : Send)
      → AreValidFrames most_limits sent → HasTextReason what → MaySend sent status what
      → AreValidFrames most_limits (sent ++ frame_of what ∷ [])
  pub replies_stay : (role : Role) (limits most : LimitsValue) (bytes : List ℕ) (events later : List Event)
      (sent : List Frame) → HasEvents role limits bytes (events ++ later) → AreValidFrames most sent
      → AreValidFrames most (sent ++ replies_of sent later)
  pub replies_can : (role own : Role) (limits : LimitsValue) (bytes key : List ℕ) (events later : List Event)
      (sent : List Frame) → HasEvents role limits bytes (events ++ later) → IsMaskingKey (key_for own key)
      → AllByRecursion FitsTheLayout (map (under_key own key) (replies_of sent later))

-- ---- bytes that come

-- the piece stands next in a stream of which so many bytes have come
pub record IsNextIn (stream : List ℕ) (reached : ℕ) (piece : List ℕ) : Type 0 where
  pub bytes : AreBytes stream
  pub fits : reached + length piece ≤ length stream
  pub is : take (length piece) (drop reached stream) ≡ piece
