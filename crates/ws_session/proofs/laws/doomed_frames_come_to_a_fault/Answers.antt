-- Until its fault comes a doomed frame stays doomed and unfinished, and no event but that fault comes of more bytes.
use Rattle.ws_session.proofs.DoomedStreams.{stays_doomed, only_a_fault}
use Rattle.ws_session.proofs.laws.doomed_frames_come_to_a_fault.Goals as goal

pub returns-clause-stays : goal.returns-clause-stays
returns-clause-stays c = stays_doomed

pub returns-clause-events : goal.returns-clause-events
returns-clause-events c = only_a_fault
