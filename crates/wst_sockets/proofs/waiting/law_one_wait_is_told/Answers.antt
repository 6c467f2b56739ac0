-- Behind the first wait nothing is left to be told, and where each has a limit nothing at all.
use Rattle.wst_sockets.proofs.WaitLemmas.{none_is_told, one_is_told}
use Rattle.wst_sockets.proofs.waiting.law_one_wait_is_told.Goals as goal

pub returns-clause-one : goal.returns-clause-one
returns-clause-one c = one_is_told

pub returns-clause-none : goal.returns-clause-none
returns-clause-none c = none_is_told
