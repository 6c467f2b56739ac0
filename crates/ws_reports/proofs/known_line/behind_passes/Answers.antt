-- One thing stands behind two counts.
use Rattle.ws_reports.proofs.Parts.{passes_read}
use Rattle.ws_reports.proofs.known_line.behind_passes.Goals as goal

pub returns-in_default : goal.returns-in_default
returns-in_default c = λ rest (behind_pass, first, second). c.in_default.ensures behind_pass first

pub returns : goal.returns
returns c =
    passes_read c.args.line.now c.in-Some.behind_pass.now c.behind_count-2.result c.in-Some.ensures
    c.behind_count-2.ensures
