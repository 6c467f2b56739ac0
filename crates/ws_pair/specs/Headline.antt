-- The headline: what two joined sessions deliver, what a clean close means, and what they put. RFC 6455 sections 5 to
-- 7.
use Rattle.std.specs.Prelude.{◌≡◌, ℕ, List, [], take, Option, Some}
use Rattle.ws_wire.specs.Frame.{KeyedFrame, stream_bytes}
use Rattle.ws_wire.specs.Stream.{SplitsInto}
use Rattle.ws_session.specs.declared.status.Status.TheVariants.{Clean}
use Rattle.ws_session.specs.Limits.{LimitsValue}
use Rattle.ws_session.specs.Messages.{messages_of}
use Rattle.ws_session.specs.Validity.{NothingAfterClose}
use Rattle.ws_session.specs.Faults.{frames_of}
use Rattle.ws_session.specs.Exchange.{HasExchanged}
use Rattle.ws_pair.specs.declared.moves.End.{End}
use Rattle.ws_pair.specs.declared.moves.End.TheVariants.{Client, Server}
use Rattle.ws_pair.specs.declared.moves.Move.{Move}
use Rattle.ws_pair.specs.declared.report.EndReport.{EndReport}
use Rattle.ws_pair.specs.declared.report.Report.{Report}
use Rattle.ws_pair.specs.Link.{Link, BothLimits, new_link, other, role_at, end_of, limits_at, frames_reached}
use Rattle.ws_pair.specs.Link.{close_code_in, status_at}
use Rattle.ws_pair.specs.Moves.{Plays}

abbrev pub both_limits : LimitsValue → LimitsValue → BothLimits
both_limits client server = record { client = client; server = server }

-- ---- one end, where the moves have led to this link (limits are handed to each, as `AtEachEnd` asks)

-- delivered are, in order, exactly the other's messages whose last byte has reached it before a size fault
abbrev pub HasDelivered : BothLimits → Link → End → EndReport → Type 0
HasDelivered limits link side report =
    report.delivered.items ≡ messages_of (frames_of (frames_reached limits link side))

-- an end that reports a clean close has delivered every message that the other sent, and reports the code of its close
abbrev pub IsWholeWhereClean : BothLimits → Link → End → EndReport → Type 0
IsWholeWhereClean limits link side report = (code : Option ℕ) → report.status ≡ Clean code →
    (report.delivered.items ≡ messages_of (frames_of (end_of link (other side)).sent))
    × (close_code_in (frames_of (end_of link (other side)).sent) ≡ Some code)

-- it has put the bytes of the frames that it sent
abbrev pub HasPut : BothLimits → Link → End → EndReport → Type 0
HasPut limits link side report = report.put.items ≡ stream_bytes (end_of link side).sent

-- the bytes that have reached it are counted, also behind the end of its session
abbrev pub HasReached : BothLimits → Link → End → EndReport → Type 0
HasReached limits link side report = report.reached ≡ (end_of link side).reached

abbrev pub HasStatus : BothLimits → Link → End → EndReport → Type 0
HasStatus limits link side report = report.status ≡ status_at limits link side

-- its own session, of its role and limits, has sent these frames and taken the bytes that have reached it
pub record HasSession (limits : BothLimits) (link : Link) (side : End) (report : EndReport) : Type 0 where
  pub role : report.session.role ≡ role_at side
  pub limits_kept : report.session.limits ≡ limits_at limits side
  pub exchanged : HasExchanged report.session (frames_of (end_of link side).sent)
      (take (end_of link side).reached (stream_bytes (end_of link (other side)).sent)) (end_of link side).is_cut

-- ---- both ends

-- at both ends, in the link to which the moves have led with these answers
abbrev pub AtEachEnd : (BothLimits → Link → End → EndReport → Type 0) → BothLimits → List Move → Report → Type 0
AtEachEnd Holds limits moves report = (link : Link) → Plays limits new_link moves report.answers.items link →
    Holds limits link Client report.client × Holds limits link Server report.server

-- ---- what an end has put

-- frames and no rest, and nothing follows a close frame
pub record HasNothingAfterClose (put : List ℕ) : Type 0 where
  pub frames : List KeyedFrame
  pub split : SplitsInto put frames []
  pub last : NothingAfterClose (frames_of frames)

-- ---- all of it

-- the report of these moves: what `run_pair` claims of it
pub record IsReportOf (client server : LimitsValue) (moves : List Move) (report : Report) : Type 0 where
  pub answers : (link : Link) × Plays (both_limits client server) new_link moves report.answers.items link
  pub delivered : AtEachEnd HasDelivered (both_limits client server) moves report
  pub clean : AtEachEnd IsWholeWhereClean (both_limits client server) moves report
  pub nothing_after_close : HasNothingAfterClose report.client.put.items × HasNothingAfterClose report.server.put.items
  pub put : AtEachEnd HasPut (both_limits client server) moves report
  pub reached : AtEachEnd HasReached (both_limits client server) moves report
  pub status : AtEachEnd HasStatus (both_limits client server) moves report
  pub session : AtEachEnd HasSession (both_limits client server) moves report
