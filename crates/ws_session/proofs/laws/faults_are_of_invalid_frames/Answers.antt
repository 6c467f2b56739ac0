-- Frames under fitting keys, none behind a close, have a fault, and fail a session, exactly where they aren't valid.
use Rattle.ws_session.proofs.ValidStreams.{valid_has_none, invalid_has_one, failed_exactly}
use Rattle.ws_session.proofs.laws.faults_are_of_invalid_frames.Goals as goal

pub returns-clause-valid : goal.returns-clause-valid
returns-clause-valid c = valid_has_none

pub returns-clause-invalid : goal.returns-clause-invalid
returns-clause-invalid c = invalid_has_one

pub returns-clause-failed : goal.returns-clause-failed
returns-clause-failed c = λ role limits xs events each keys after h. failed_exactly role limits xs events each keys after h
