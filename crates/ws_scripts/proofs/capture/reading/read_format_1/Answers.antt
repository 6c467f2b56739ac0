-- What the lines tell in format 1 is the capture, and where they stop to tell one the text is damaged.
use Rattle.std.proofs.Common.{false}
use Rattle.ws_scripts.proofs.CaptureTells.{damaged_1, is_in}
use Rattle.ws_scripts.proofs.capture.reading.read_format_1.Goals as goal

pub returns-in-Ok : goal.returns-in-Ok
returns-in-Ok c = let is = is_in false c.in-Ok.capture c.args.text.now c.in-Ok.ensures in is.1

pub returns-in-Err : goal.returns-in-Err
returns-in-Err c = λ n e. damaged_1 n c.args.text.now (c.in-Err.ensures n (c.capture_fault.ensures n e))
