-- How the frame is found. A reader may skip this file: of it only that some bytes were taken is a public contract's.
use Rattle.std.specs.Prelude.{◌≡◌, ℕ, if◌then◌else◌, List, Option, Some, None}
use Rattle.ws_wire.specs.declared.role.Role.{Role}
use Rattle.ws_session.specs.declared.payload_room.EventKind.{EventKind}
use Rattle.ws_session.specs.declared.payload_room.EventKind.TheVariants as lent
use Rattle.ws_session.specs.declared.reason.Reason.{Reason}
use Rattle.ws_suite.specs.declared.evidence.streams.Seen.{Seen}
use Rattle.ws_suite.specs.declared.evidence.streams.StreamEnd.{StreamEnd}
use Rattle.ws_suite.specs.declared.evidence.streams.StreamEnd.TheVariants as stream
use Rattle.ws_suite.specs.Found.{is_of_payload}
use Rattle.ws_suite.specs.InnerMarks.{HasSeenBytes}
use Rattle.ws_faults.specs.declared.finding.FaultFinder.{FaultFinder}

-- the place of a frame, if its payload is at fault for this reason
abbrev pub fault_at : Reason → ℕ → Option ℕ
fault_at reason place = if is_of_payload reason then Some place else None

-- so it is where a stream ends so, with this frame
abbrev pub fault_of_end : Option StreamEnd → ℕ → Option ℕ
fault_of_end None last = None
fault_of_end (Some stream.Closed) last = None
fault_of_end (Some (stream.Failed reason)) last = fault_at reason last

-- these bytes have come, which an end with this role takes
pub record HasSearched (role : Role) (finder : FaultFinder) (bytes : List ℕ) : Type 0 where
  pub seen : Seen
  pub is_seen : HasSeenBytes role finder.session bytes seen
  pub place : finder.place ≡ seen.place
  pub after : finder.after ≡ seen.after
  pub fault : finder.fault ≡ fault_of_end seen.end seen.last

-- what an event makes of what was found
abbrev pub fault_after : EventKind → ℕ → Option ℕ → Option ℕ
fault_after lent.Part after fault = fault
fault_after (lent.Message kind) after fault = fault
fault_after lent.Ping after fault = fault
fault_after lent.Pong after fault = fault
fault_after (lent.Close code) after fault = fault
fault_after (lent.Failed reason) after fault = fault_at reason after

abbrev pub finder_after : FaultFinder → Option EventKind → FaultFinder
finder_after finder None = finder
finder_after finder (Some event) =
    record finder { after = finder.place; fault = fault_after event finder.after finder.fault }
