-- The lines written so far are the chop's and those of the steps before the next one.
use Rattle.std.proofs.Common.{take}
use Rattle.std.specs.Fmt.{HasWritten, IsPlainFormatter}
use Rattle.std.specs.List.{flat_map}
use Rattle.ws_scripts.specs.InnerScripting.{step_text}
use Rattle.ws_scripts.proofs.script_text.writing.ScriptTextDisplay.fmt.Given as goal

-- the lines of the steps so far are written
abbrev pub invariant-loop-step : goal.invariant-loop-step
invariant-loop-step g l = IsPlainFormatter l.initial.f
    → HasWritten g.W.Write.write_str_gives l.initial.f (flat_map step_text (take l.step-index l.step-items)) l.f
