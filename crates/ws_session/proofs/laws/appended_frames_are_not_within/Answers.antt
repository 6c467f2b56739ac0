-- Frames that are sent later change neither which frames the first bytes hold nor the size fault in them.
use Rattle.ws_session.proofs.Within.{later_frames_beyond, later_header_beyond}
use Rattle.ws_session.proofs.laws.appended_frames_are_not_within.Goals as goal

pub returns-clause-frames : goal.returns-clause-frames
returns-clause-frames c = later_frames_beyond

pub returns-clause-size : goal.returns-clause-size
returns-clause-size c = later_header_beyond
