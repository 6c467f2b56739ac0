-- What the lines tell in either format is the capture, and where they stop to tell one the text is damaged.
use Rattle.std.proofs.Common.{true}
use Rattle.ws_scripts.proofs.CaptureTells.{damaged_either, is_in}
use Rattle.ws_scripts.proofs.capture.reading.read_kept_capture.Goals as goal

pub returns-in-Ok : goal.returns-in-Ok
returns-in-Ok c = is_in true c.in-Ok.capture c.args.text.now c.in-Ok.ensures

pub returns-in-Err : goal.returns-in-Err
returns-in-Err c = λ n e. damaged_either n c.args.text.now (c.in-Err.ensures n (c.capture_fault.ensures n e))
