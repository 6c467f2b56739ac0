-- Fourteen bytes hold a header.
use Rattle.ws_wire.proofs.HeaderSize.{short_without_header}
use Rattle.ws_wire.proofs.laws.fourteen_bytes_hold_a_header.Goals as goal

pub returns : goal.returns
returns c = short_without_header
