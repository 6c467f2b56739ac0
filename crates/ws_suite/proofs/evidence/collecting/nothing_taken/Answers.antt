-- Nothing was taken yet.
use Rattle.std.proofs.Common.{◌∙◌, [], refl, subst, sym}
use Rattle.ws_suite.specs.declared.evidence.streams.Seen.{Seen}
use Rattle.ws_suite.specs.InnerCollecting.{found_by}
use Rattle.ws_suite.specs.InnerMarks.{HasSeenBytes}
use Rattle.ws_suite.proofs.SeenStreams.{seen_at_start}
use Rattle.ws_suite.proofs.TurnsCollected.{taken_at_start}
use Rattle.ws_suite.proofs.evidence.collecting.nothing_taken.Goals as goal

pub returns-clause-taken : goal.returns-clause-taken
returns-clause-taken g c = taken_at_start (found_by c.args.way) c.args.role c.new.result _ c.none.ensures refl refl c.new.ensures.role (c.new.ensures.limits ∙ c.largest.ensures) c.new.ensures.exchanged

pub returns-clause-seen : goal.returns-clause-seen
returns-clause-seen g c =
    subst (λ (s : Seen). HasSeenBytes c.args.role c.new.result [] s) (sym c.nothing.ensures)
    (seen_at_start c.args.role c.new.result c.new.ensures.role (c.new.ensures.limits ∙ c.largest.ensures)
    c.new.ensures.exchanged)
