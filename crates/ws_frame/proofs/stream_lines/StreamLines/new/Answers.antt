-- A new run has shown no lines for no bytes.
use Rattle.std.proofs.Common.{false, [], refl}
use Rattle.ws_frame.proofs.Streams.{shown_inside}
use Rattle.ws_frame.proofs.stream_lines.StreamLines.new.Goals as goal

pub returns-clause-begun : goal.returns-clause-begun
returns-clause-begun c = shown_inside c.new.result false [] [] refl c.new.ensures.empty c.new.ensures.begun
