-- The first bytes of a stream have one list of certain lines.
use Rattle.ws_frame.proofs.Streams.{certain_lines_are_one}
use Rattle.ws_frame.proofs.laws.one_list_of_certain_lines.Goals as goal

pub returns : goal.returns
returns c = certain_lines_are_one
