-- The lines so far are those of the steps so far.
use Rattle.std.proofs.Common.{◌≡◌, map, take}
use Rattle.ws_sweep.specs.Telling.{script_rows}
use Rattle.ws_sweep.proofs.telling.script_lines.Given as goal

abbrev pub invariant-loop-place : goal.invariant-loop-place
invariant-loop-place l = map (λ line. line.now) l.lines.items
    ≡ map (λ told. told.line) (script_rows l.tested (take l.place-index l.script))
