-- From the order of things.
use Rattle.ws_loops.proofs.LawLemmas.{written_so}
use Rattle.ws_loops.proofs.laws.written_once_read.Goals as goal

pub returns : goal.returns
returns c = written_so
