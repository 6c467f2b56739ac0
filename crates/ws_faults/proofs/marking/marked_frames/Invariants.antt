-- The bytes of the turns so far were taken.
use Rattle.std.proofs.Common.{◌≡◌, drop, length, take}
use Rattle.std.specs.List.{flat_map}
use Rattle.ws_scripts.specs.declared.transcript.Turn.{Turn}
use Rattle.ws_suite.specs.Evidence.{other_role}
use Rattle.ws_faults.specs.Finding.{HasSearched}
use Rattle.ws_faults.proofs.marking.marked_frames.Given as goal

abbrev pub invariant-loop-number : goal.invariant-loop-number
invariant-loop-number g l = let turns = (g.T.AsTranscript.transcript l.fn.transcript).turns in record {
  sent : HasSearched l.fn.tested l.sent (flat_map (λ (turn : Turn). turn.sent) (take l._number turns));
  got : HasSearched (other_role l.fn.tested) l.got (flat_map (λ (turn : Turn). turn.got) (take l._number turns));
  walk : l.walk ≡ drop l._number turns;
  count : l._number-end ≡ length turns;
}
