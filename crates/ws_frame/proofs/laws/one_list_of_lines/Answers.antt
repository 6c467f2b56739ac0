-- A stream that has ended has one list of lines, and one end.
use Rattle.ws_frame.proofs.Fronts.{lines_are_one}
use Rattle.ws_frame.proofs.laws.one_list_of_lines.Goals as goal

pub returns : goal.returns
returns c = lines_are_one
