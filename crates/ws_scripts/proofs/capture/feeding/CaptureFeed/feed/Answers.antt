-- What the lines tell in either format is the capture, and where they begin to tell none the text is damaged.
use Rattle.std.proofs.Common.{◌++◌, true}
use Rattle.ws_scripts.specs.declared.capture.reading.PartialCapture.TheVariants.{Nothing}
use Rattle.ws_scripts.proofs.CaptureTells.{damaged_either}
use Rattle.ws_scripts.proofs.capture.feeding.CaptureFeed.feed.Goals as goal

pub returns-in-Err : goal.returns-in-Err
returns-in-Err c = λ text h more n e.
    damaged_either n (text ++ (c.args.piece.now ++ more))
    (c.in-Err.ensures (Nothing true) text h more n (c.capture_fault.ensures n e))
