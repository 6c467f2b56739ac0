-- What the lines tell in either format is the capture, and where they stop to tell one the text is damaged.
use Rattle.std.proofs.Common.{true}
use Rattle.ws_scripts.specs.declared.capture.reading.PartialCapture.TheVariants.{Nothing}
use Rattle.ws_scripts.proofs.CaptureTells.{damaged_either, is_in}
use Rattle.ws_scripts.proofs.capture.feeding.CaptureFeed.end.Goals as goal

pub returns-in-Ok : goal.returns-in-Ok
returns-in-Ok c = λ text h. is_in true c.in-Ok.capture text (c.in-Ok.ensures (Nothing true) text h)

pub returns-in-Err : goal.returns-in-Err
returns-in-Err c = λ text h n e.
    damaged_either n text (c.in-Err.ensures (Nothing true) text h n (c.capture_fault.ensures n e))
