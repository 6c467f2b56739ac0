-- A line tells a segment whose word is the one that stands in it.
use Rattle.ws_followed.proofs.SegmentLines.{parted_segment}
use Rattle.ws_followed.proofs.segment.read_segment.Goals as goal

pub returns-in-Err : goal.returns-in-Err
returns-in-Err c = λ e value is.
    let node = c.parted-node.result.0 in
    let word = c.parted-node.result.1.now in
    c.in-Err.ensures e value.bytes (parted_segment value c.args.line.now node word c.parted-node.ensures is).0
