-- What is cut is told by its first byte, and where there are more by those.
use Rattle.ws_suite.proofs.RightStreams.{cut_by_more}
use Rattle.ws_suite.proofs.evidence.wire_frames.is_cut_control.Goals as goal

pub returns-then-begins_control : goal.returns-then-begins_control
returns-then-begins_control c = cut_by_more c.args.role c.args.rest.now c.is_cut_right.result
    c.in-len2-up.len_at_least (c.begins_control-in-len2-up.ensures.0 c.if-begins_control.true) c.is_cut_right.ensures
