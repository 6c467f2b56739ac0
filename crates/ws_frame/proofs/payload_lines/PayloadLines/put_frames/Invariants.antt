-- Frame after frame: the frames so far are put.
use Rattle.std.proofs.Common.{◌≡◌, ◌-◌, false, length}
use Rattle.ws_frame.specs.InnerPayloads.{AreFramesTo}
use Rattle.ws_frame.proofs.payload_lines.PayloadLines.put_frames.Given as goal

-- the frames so far are put
abbrev pub invariant-loop-at : goal.invariant-loop-at
invariant-loop-at l = record {
  source : l.self.source ≡ l.initial.self.source;
  going : l.self.stopped ≡ false;
  kept : l.self.rest.items ≡ l.initial.self.rest.items;
  frames : AreFramesTo l.initial.self l.at l.self.offset l.initial.lines.items l.lines.items;
}

abbrev pub decreases-loop-at : goal.decreases-loop-at
decreases-loop-at l = length l.self.rest.items - l.at
