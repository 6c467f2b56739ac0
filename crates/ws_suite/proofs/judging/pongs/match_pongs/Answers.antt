-- The pongs that came in step, and then the others.
use Rattle.std.proofs.Common.{◌∙◌, ◌||◌, Bool, ap}
use Rattle.ws_suite.proofs.judging.pongs.match_pongs.Goals as goal

pub returns : goal.returns
returns c =
    let passed = c.match_in_step-passed in
    let others = c.in_ok-others in
    record {
      early = c.either.ensures ∙ (ap (λ (b : Bool). passed.result.is_early || b) others.ensures.early
          ∙ passed.ensures.early);
      unmatched = others.ensures.unmatched ∙ passed.ensures.unmatched;
    }
