-- More bytes of a stream leave the lines that were certain, and add lines behind them.
use Rattle.ws_frame.proofs.Streams.{certain_lines_go_on}
use Rattle.ws_frame.proofs.laws.certain_lines_stay.Goals as goal

pub returns : goal.returns
returns c = certain_lines_go_on
