-- So many bytes stand in the turns so far.
use Rattle.std.proofs.Common.{◌≡◌, ◌<◌, ◌^◌, drop, length, take}
use Rattle.std.specs.List.{flat_map}
use Rattle.ws_scripts.specs.declared.transcript.Turn.{Turn}
use Rattle.ws_lines.proofs.places.fits_places.Given as goal

abbrev pub invariant-loop-number : goal.invariant-loop-number
invariant-loop-number g l = let turns = (g.T.AsTranscript.transcript l.fn.transcript).turns in record {
  sent_fits : l.sent < 2 ^ 64;
  got_fits : l.got < 2 ^ 64;
  sent : l.sent ≡ length (flat_map (λ (turn : Turn). turn.sent) (take l._number turns));
  got : l.got ≡ length (flat_map (λ (turn : Turn). turn.got) (take l._number turns));
  walk : l.walk ≡ drop l._number turns;
  count : l._number-end ≡ length turns;
}
