-- What was written is the report.
use Rattle.std.proofs.Common.{◌≡◌, ◌∙◌, List, ℕ, false, subst, true}
use Rattle.ws_frame.specs.Devices.{HasBegun, HasWritten, watched}
use Rattle.ws_frame.specs.Watching.{has_failed}
use Rattle.ws_pair.proofs.Putting.{whole_report}
use Rattle.ws_pair.proofs.report_lines.write_report.Goals as goal

pub returns-in-Ok-write_lines : goal.returns-in-Ok-write_lines
returns-in-Ok-write_lines g c =
    let same = whole_report c.args.report.now c.as_str.result.now c.as_str-2.result.now (c.as_str.ensures.value ∙ c.in-Ok.ensures)
    (c.as_str-2.ensures.value ∙ c.in-Ok-standing.ensures) in
    subst (λ (l : List ℕ). HasWritten l (watched g.W.Write.contents c.args.writer.now c.write_lines.new.writer) × (has_failed c.write_lines.new.writer ≡ false)) same
    c.in-Ok-write_lines.ensures

pub returns : goal.returns
returns g c =
    let same = whole_report c.args.report.now c.as_str.result.now c.as_str-2.result.now (c.as_str.ensures.value ∙ c.in-Ok.ensures)
    (c.as_str-2.ensures.value ∙ c.in-Ok-standing.ensures) in
    subst (λ (l : List ℕ). HasBegun l (watched g.W.Write.contents c.args.writer.now c.write_lines.new.writer) × (has_failed c.write_lines.new.writer ≡ true)) same
    c.in-Err.ensures
