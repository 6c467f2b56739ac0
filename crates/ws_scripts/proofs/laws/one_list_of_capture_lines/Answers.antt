-- The lines of a capture are those of a text, and a text tells one capture.
use Rattle.std.proofs.Common.{◌∙◌, refl, sym, true}
use Rattle.ws_formats.specs.Lines.{ended}
use Rattle.ws_scripts.specs.Captures2.{capture2_lines}
use Rattle.ws_scripts.proofs.CaptureTells.{of_format_2, one_told}
use Rattle.ws_scripts.proofs.laws.one_list_of_capture_lines.Goals as goal

pub returns-clause-has : goal.returns-clause-has
returns-clause-has c = λ capture holds. (capture2_lines capture, (holds, refl))

pub returns-clause-one : goal.returns-clause-one
returns-clause-one c = λ capture lines others own other. own.1 ∙ sym other.1

pub returns-clause-of_one : goal.returns-clause-of_one
returns-clause-of_one c = λ one other lines p q.
    one_told true (ended lines) one other (of_format_2 one (ended lines) (lines, p, refl))
    (of_format_2 other (ended lines) (lines, q, refl))
