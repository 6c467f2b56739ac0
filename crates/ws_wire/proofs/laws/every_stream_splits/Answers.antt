-- Every list of bytes splits into frames and a rest, be the frames as they are sent or with headers in any form.
use Rattle.ws_wire.specs.Frame.{FitsTheLayout, frame_bytes, IsWireFrame, wire_bytes}
use Rattle.ws_wire.proofs.Frames.{frame_told, wire_told}
use Rattle.ws_wire.proofs.Splits.{some_split}
use Rattle.ws_wire.proofs.laws.every_stream_splits.Goals as goal

pub returns-clause-sent : goal.returns-clause-sent
returns-clause-sent c = λ bytes are. let s = some_split FitsTheLayout frame_bytes frame_told bytes are in (s.frames, s.rest, s.split)

pub returns-clause-any_form : goal.returns-clause-any_form
returns-clause-any_form c = λ bytes are. let s = some_split IsWireFrame wire_bytes wire_told bytes are in (s.frames, s.rest, s.split)
