-- What is collected and the session tell it.
use Rattle.std.proofs.Common.{rules}
use Rattle.ws_suite.specs.InnerCollecting.{found_by}
use Rattle.ws_suite.proofs.ProgressLemmas.{tells_other}
use Rattle.ws_suite.proofs.evidence.growing.is_in_other_frame.Goals as goal

pub returns-else-taken : goal.returns-else-taken
returns-else-taken g c = λ handed way role turns h.
    tells_other (found_by way) role turns c.args.taken.now.session c.args.taken.now.collected h c.frame_laws.ensures _
    (search rules)

pub returns-then-not-is_over : goal.returns-then-not-is_over
returns-then-not-is_over g c = λ handed way role turns h.
    tells_other (found_by way) role turns c.args.taken.now.session c.args.taken.now.collected h c.frame_laws.ensures _
    (search rules)

pub returns-else-not-is_over : goal.returns-else-not-is_over
returns-else-not-is_over g c = λ handed way role turns h.
    tells_other (found_by way) role turns c.args.taken.now.session c.args.taken.now.collected h c.frame_laws.ensures _
    (search rules)
