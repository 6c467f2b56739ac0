-- From the order of things.
use Rattle.ws_loops.proofs.LawLemmas.{vain_so}
use Rattle.ws_loops.proofs.laws.wait_in_vain_was_asked.Goals as goal

pub returns : goal.returns
returns c = vain_so
