-- Turn after turn: the turns so far were taken both ways; it is known in which of them bytes first follow a close, and
-- whether what was sent was doomed when a close or a fault was got.
use Rattle.std.proofs.Common.{◌≡◌, drop, map, take}
use Rattle.ws_suite.specs.declared.evidence.collecting.Way.TheVariants.{Sent}
use Rattle.ws_suite.specs.Evidence.{other_role, sent_turns}
use Rattle.ws_suite.specs.Explanation.{IsBeyondBy}
use Rattle.ws_suite.specs.Growing.{AreAll}
use Rattle.ws_suite.specs.InnerCollecting.{HasTakenWay, found_by, way_bytes}
use Rattle.ws_suite.specs.InnerDoom.{IsKnownAtClose}
use Rattle.ws_suite.specs.InnerMarks.{HasSeenBytes}
use Rattle.ws_suite.proofs.TurnBytes.{bytes_before}
use Rattle.ws_suite.proofs.evidence.telling.shown_by.Given as goal

abbrev pub invariant-loop-number : goal.invariant-loop-number
invariant-loop-number l = record {
  sent : HasTakenWay AreAll Sent l.fn.tested (take l.number (sent_turns l.fn.transcript.turns)) l.sent.session l.sent.collected;
  got : HasTakenWay AreAll l.way (other_role l.fn.tested) (take l.number (map (way_bytes l.way) l.fn.transcript.turns))
      l.got.session l.got.collected;
  sent_seen : HasSeenBytes l.fn.tested l.sent.session (bytes_before (way_bytes Sent) l.fn.transcript.turns l.number) l.sent.seen;
  got_seen : HasSeenBytes (other_role l.fn.tested) l.got.session (bytes_before (way_bytes l.way) l.fn.transcript.turns l.number)
      l.got.seen;
  beyond : IsBeyondBy (other_role l.fn.tested) (found_by l.way) (map (way_bytes l.way) l.fn.transcript.turns) l.number l.beyond;
  left : l.walk ≡ drop l.number l.fn.transcript.turns;
  known : IsKnownAtClose l.fn.tested (sent_turns l.fn.transcript.turns) l.got.collected.ending l.at_close;
}
