-- What is written is a capture of the transcript, and of no other.
use Rattle.std.proofs.Common.{ap, false}
use Rattle.ws_scripts.specs.declared.capture.Capture.{Capture}
use Rattle.ws_scripts.specs.Captures.{written_capture}
use Rattle.ws_scripts.proofs.CaptureLaws.{given_back}
use Rattle.ws_scripts.proofs.CaptureTells.{of_format_1, one_told, without_key}
use Rattle.ws_scripts.proofs.laws.format_1_gives_back.Goals as goal

pub returns-clause-same : goal.returns-clause-same
returns-clause-same c = given_back

pub returns-clause-alone : goal.returns-clause-alone
returns-clause-alone c = λ transcript other are answered not is.
    let text = written_capture transcript in
    ap (λ (capture : Capture). capture.transcript)
    (one_told false text (without_key other) (without_key transcript) (of_format_1 false other text is)
    (of_format_1 false transcript text (given_back transcript are answered not)))
