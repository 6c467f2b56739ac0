-- No header begins another.
use Rattle.ws_wire.proofs.Headers.{no_header_begins}
use Rattle.ws_wire.proofs.laws.no_header_begins_another.Goals as goal

pub returns : goal.returns
returns c = no_header_begins
