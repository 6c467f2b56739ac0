-- The certain lines of a stream's first bytes begin all its lines, should the stream end there.
use Rattle.ws_frame.proofs.Streams.{certain_lines_end}
use Rattle.ws_frame.proofs.laws.certain_lines_begin_all.Goals as goal

pub returns : goal.returns
returns c = certain_lines_end
