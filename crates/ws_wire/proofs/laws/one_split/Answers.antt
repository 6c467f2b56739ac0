-- A stream splits into frames and a rest in one way, be the frames as they are sent or with headers in any form.
use Rattle.ws_wire.specs.Frame.{FitsTheLayout, frame_bytes, IsWireFrame, wire_bytes}
use Rattle.ws_wire.proofs.Frames.{none_begins, wire_none_begins}
use Rattle.ws_wire.proofs.Splits.{split_is_one}
use Rattle.ws_wire.proofs.laws.one_split.Goals as goal

pub returns-clause-sent : goal.returns-clause-sent
returns-clause-sent c = split_is_one FitsTheLayout frame_bytes none_begins

pub returns-clause-any_form : goal.returns-clause-any_form
returns-clause-any_form c = split_is_one IsWireFrame wire_bytes wire_none_begins
