-- The lines are joined as they stand.
use Rattle.std.proofs.Common.{◌∙◌, codes, rules}
use Rattle.ws_sweep.specs.Telling.{case_rows}
use Rattle.ws_sweep.proofs.Lines.{same_text}
use Rattle.ws_sweep.proofs.telling.tell_steps.Goals as goal

pub returns : goal.returns
returns c = c.in_ok-text.ensures.ok
    ∙ same_text (λ line. line.now) (λ told. told.line) (codes "; ") c.as_slice.result.now
    (case_rows c.args.tested c.args.expected c.args.script.now c.args.steps.now)
    (search rules)
