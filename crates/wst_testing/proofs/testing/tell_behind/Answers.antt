-- Both were told, one after the other.
use Rattle.ws_frame.specs.Watching.{has_failed, inner_of}
use Rattle.wst_testing.specs.Hints.{notes_with}
use Rattle.wst_testing.specs.Notes.{miss_notes}
use Rattle.wst_testing.proofs.NoteLemmas.{noted_next}
use Rattle.wst_testing.proofs.testing.tell_behind.Goals as goal

pub returns-clause-told : goal.returns-clause-told
returns-clause-told g c = noted_next (miss_notes c.args.outcome.now) (notes_with c.args.hint c.args.outcome.now)
    (has_failed c.tell_miss.new.faults) (has_failed c.tell_hint.new.faults)
    (g.F.Write.contents (inner_of c.args.faults.now)) (g.F.Write.contents (inner_of c.tell_miss.new.faults))
    (g.F.Write.contents (inner_of c.tell_hint.new.faults)) c.tell_hint.ensures.still c.tell_miss.ensures.told
    c.tell_hint.ensures.told
