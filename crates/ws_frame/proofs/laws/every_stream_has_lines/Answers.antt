-- Every stream that has ended has its lines, and an end.
use Rattle.ws_frame.proofs.Fronts.{some_lines}
use Rattle.ws_frame.proofs.laws.every_stream_has_lines.Goals as goal

pub returns : goal.returns
returns c = some_lines
