-- From the order of things.
use Rattle.ws_loops.proofs.LawLemmas.{tried_so}
use Rattle.ws_loops.proofs.laws.failed_write_was_tried.Goals as goal

pub returns : goal.returns
returns c = tried_so
