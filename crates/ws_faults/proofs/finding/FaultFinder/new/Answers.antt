-- Nothing was taken yet.
use Rattle.std.proofs.Common.{◌∙◌, refl}
use Rattle.ws_suite.specs.InnerMarks.{nothing_seen}
use Rattle.ws_suite.proofs.SeenStreams.{seen_at_start}
use Rattle.ws_faults.proofs.finding.FaultFinder.new.Goals as goal

pub returns : goal.returns
returns c = record {
  begun = record {
    seen = nothing_seen;
    is_seen = seen_at_start c.args.role c.new.result c.new.ensures.role (c.new.ensures.limits ∙ c.largest.ensures)
        c.new.ensures.exchanged;
    place = refl;
    after = refl;
    fault = refl;
  };
}
