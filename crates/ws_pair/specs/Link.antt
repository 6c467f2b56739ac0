-- Two endpoints joined by two ordered streams of bytes, seen from outside: RFC 6455 sections 5 to 7. An end is a list
-- of frames, a count and a mark: no part of a frame, masking phase, unfinished character or buffer.
use Rattle.std.specs.Prelude.{ℕ, Bool, false, if◌then◌else◌, List, [], ◌∷◌, Option, Some, None}
use Rattle.ws_wire.specs.declared.role.Role.{Role}
use Rattle.ws_wire.specs.declared.role.Role.TheVariants as role
use Rattle.ws_wire.specs.Frame.{Frame, KeyedFrame}
use Rattle.ws_session.specs.declared.status.Status.{Status}
use Rattle.ws_session.specs.declared.status.Status.TheVariants.{Clean, Failed}
use Rattle.ws_session.specs.declared.reason.Reason.{Reason}
use Rattle.ws_session.specs.Limits.{LimitsValue}
use Rattle.ws_session.specs.Messages.{is_close}
use Rattle.ws_session.specs.Faults.{frames_of}
use Rattle.ws_session.specs.Events.{close_in}
use Rattle.ws_session.specs.Exchange.{code_if_any, status_before_close}
use Rattle.ws_session.specs.Reach.{frames_within, size_fault}
use Rattle.ws_pair.specs.declared.moves.End.{End}
use Rattle.ws_pair.specs.declared.moves.End.TheVariants.{Client, Server}

-- one end: the frames that it has sent, how many of the other's bytes have reached it, and whether the stream to it was
-- cut
pub record LinkEnd : Type 0 where
  pub sent : List KeyedFrame
  pub reached : ℕ
  pub is_cut : Bool

pub record Link : Type 0 where
  pub client : LinkEnd
  pub server : LinkEnd

-- what each end takes at most
pub record BothLimits : Type 0 where
  pub client : LimitsValue
  pub server : LimitsValue

abbrev pub new_end : LinkEnd
new_end = record { sent = []; reached = 0; is_cut = false }

abbrev pub new_link : Link
new_link = record { client = new_end; server = new_end }

-- ---- this end and the other

abbrev pub other : End → End
other Client = Server
other Server = Client

abbrev pub role_at : End → Role
role_at Client = role.Client
role_at Server = role.Server

abbrev pub end_of : Link → End → LinkEnd
end_of link Client = link.client
end_of link Server = link.server

abbrev pub limits_at : BothLimits → End → LimitsValue
limits_at limits Client = limits.client
limits_at limits Server = limits.server

abbrev pub with_end : Link → End → LinkEnd → Link
with_end link Client x = record { client = x; server = link.server }
with_end link Server x = record { client = link.client; server = x }

-- ---- what has come

-- the other's frames that have reached an end, none of which passes its limits
abbrev pub frames_reached : BothLimits → Link → End → List KeyedFrame
frames_reached limits link side =
    frames_within (limits_at limits side) (end_of link side).reached (end_of link (other side)).sent

-- what the end tells of a frame whose size it does not take, once its header has come: it takes its message above the
-- end's limit, or else it is above the end's limit of a frame
abbrev pub size_fault_at : BothLimits → Link → End → Option Reason
size_fault_at limits link side =
    size_fault (limits_at limits side) (end_of link side).reached (end_of link (other side)).sent

-- failed by a size fault, if there is one
abbrev pub status_by_size : Option Reason → Status → Status
status_by_size None status = status
status_by_size (Some reason) status = Failed reason

-- what the first close frame says, if there is one: its code, or none where it is empty
abbrev pub close_code_in : List Frame → Option (Option ℕ)
close_code_in [] = None
close_code_in (frame ∷ frames) =
    if is_close frame then Some (code_if_any (close_in frame.payload)) else close_code_in frames

-- clean with the code of a close that has come, else by the stream's end and this end's own close
abbrev pub status_by_close : Option (Option ℕ) → List Frame → Bool → Status
status_by_close (Some code) sent is_cut = Clean code
status_by_close None sent is_cut = status_before_close sent is_cut

-- the status of an end: failed by a size fault, else clean by the other's close, else lost by a cut, else closing by
-- its own close, else open
abbrev pub status_at : BothLimits → Link → End → Status
status_at limits link side = status_by_size (size_fault_at limits link side)
    (status_by_close (close_code_in (frames_of (frames_reached limits link side)))
    (frames_of (end_of link side).sent) (end_of link side).is_cut)
