-- A capture that is read piece by piece.
use Rattle.std.specs.Prelude.{ℕ, List, true}
use Rattle.ws_text_feed.specs.FeedingLines.{AreFedLines}
use Rattle.ws_scripts.specs.InnerCapturing.{TellCapture}
use Rattle.ws_scripts.specs.declared.capture.feeding.CaptureFeed.{CaptureFeed}
use Rattle.ws_scripts.specs.declared.capture.reading.PartialCapture.TheVariants.{Nothing}

-- this text was fed: what its whole lines tell of a capture is kept, and the line that hasn't ended
abbrev pub IsFedCapture : List ℕ → CaptureFeed → Type 0
IsFedCapture text feed = AreFedLines TellCapture (Nothing true) text feed.lines
