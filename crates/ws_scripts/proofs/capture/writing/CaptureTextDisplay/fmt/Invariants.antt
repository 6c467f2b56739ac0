-- The lines written so far are those before the next one.
use Rattle.std.proofs.Common.{take}
use Rattle.std.specs.Fmt.{HasWritten, IsPlainFormatter}
use Rattle.std.specs.List.{flat_map}
use Rattle.ws_scripts.specs.InnerCapturing.{turn_text}
use Rattle.ws_scripts.proofs.capture.writing.CaptureTextDisplay.fmt.Given as goal

-- the lines of the turns so far are written
abbrev pub invariant-loop-turn : goal.invariant-loop-turn
invariant-loop-turn g l = IsPlainFormatter l.initial.f
    → HasWritten g.W.Write.write_str_gives l.initial.f
    (flat_map (turn_text l.self.format) (take l.turn-index l.turn-items)) l.f
