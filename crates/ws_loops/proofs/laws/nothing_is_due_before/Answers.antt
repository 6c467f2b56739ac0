-- From what is due by now.
use Rattle.ws_loops.proofs.LawLemmas.{not_due_before}
use Rattle.ws_loops.proofs.laws.nothing_is_due_before.Goals as goal

pub returns : goal.returns
returns c = not_due_before
