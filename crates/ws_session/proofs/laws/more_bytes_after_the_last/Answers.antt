-- More bytes hold no more frames after a size that isn't taken; after the close of valid frames all have come.
use Rattle.ws_session.proofs.Within.{size_fault_stays, close_is_all}
use Rattle.ws_session.proofs.laws.more_bytes_after_the_last.Goals as goal

pub returns-clause-size : goal.returns-clause-size
returns-clause-size c = size_fault_stays

pub returns-clause-close : goal.returns-clause-close
returns-clause-close c = close_is_all
