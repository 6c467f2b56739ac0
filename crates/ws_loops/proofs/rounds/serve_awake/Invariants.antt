-- So far these things happened, what was moved and what is left of the share are the share, and the sink took its
-- lines.
use Rattle.std.proofs.Common.{◌≡◌, ◌<◌, ◌+◌, ℕ, List, length}
use Rattle.ws_loops.specs.Deeds.{Happened, all_moved, all_shown}
use Rattle.ws_loops.specs.Sinks.{HasTakenLines, said_at}
use Rattle.ws_loops.specs.Slots.{HasRunBy, IsAble, share_len, slot_left}
use Rattle.ws_loops.proofs.rounds.serve_awake.Given as goal

abbrev pub invariant-loop-share : goal.invariant-loop-share
invariant-loop-share g l = record {
  room : 0 < length l.room;
  able : IsAble g.M.Machine.agrees g.M.Machine.wants l.slot.machine;
  so_far : (lines : List (List ℕ)) × HasTakenLines g.K.LineSink.heard l.fn.sink l.sink (said_at l.at lines)
      × ((happened : List Happened) × HasRunBy g.M.Machine.agrees g.M.Machine.wants g.S.NonBlocking.did l.now
      l.fn.slot happened l.now l.slot × (all_moved happened + l.share ≡ share_len) × (all_shown happened ≡ lines));
}

-- each thing that is done lowers what can still happen
abbrev pub decreases-loop-share : goal.decreases-loop-share
decreases-loop-share g l = slot_left g.M.Machine.left l.slot l.now
