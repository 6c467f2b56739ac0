-- A text tells one capture.
use Rattle.std.proofs.Common.{ap, false}
use Rattle.ws_scripts.specs.declared.capture.Capture.{Capture}
use Rattle.ws_scripts.proofs.CaptureTells.{of_format_1, one_told, without_key}
use Rattle.ws_scripts.proofs.laws.one_capture.Goals as goal

pub returns : goal.returns
returns c = λ text one other p q.
    ap (λ (capture : Capture). capture.transcript)
    (one_told false text (without_key one) (without_key other) (of_format_1 false one text p)
    (of_format_1 false other text q))
