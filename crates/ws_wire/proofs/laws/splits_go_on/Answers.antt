-- With more bytes a stream splits into the frames before and those of the old rest and the new bytes.
use Rattle.ws_wire.specs.Frame.{FitsTheLayout, frame_bytes, IsWireFrame, wire_bytes}
use Rattle.ws_wire.proofs.Splits.{split_goes_on}
use Rattle.ws_wire.proofs.laws.splits_go_on.Goals as goal

pub returns-clause-sent : goal.returns-clause-sent
returns-clause-sent c = split_goes_on FitsTheLayout frame_bytes

pub returns-clause-any_form : goal.returns-clause-any_form
returns-clause-any_form c = split_goes_on IsWireFrame wire_bytes
