-- The first bytes of valid frames tell those in them that fit the limits, then a size fault at most, and no other.
use Rattle.ws_session.proofs.ValidTold.{told_events}
use Rattle.ws_session.proofs.laws.valid_frames_are_told.Goals as goal

pub returns : goal.returns
returns c = told_events
