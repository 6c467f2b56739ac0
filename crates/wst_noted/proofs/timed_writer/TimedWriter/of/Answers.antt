-- Nothing was written yet.
use Rattle.std.proofs.Common.{◌∙◌, ap}
use Rattle.wst_noted.specs.TimedLines.{known_lines}
use Rattle.wst_noted.proofs.TimedLemmas.{none_begun}
use Rattle.wst_noted.proofs.timed_writer.TimedWriter.of.Goals as goal

pub returns : goal.returns
returns g c = record {
  begun = λ is. ap (known_lines g.K.LineTimes.first c.is_first_bare.result) is
      ∙ none_begun g.K.LineTimes.first c.is_first_bare.result c.is_first_bare.ensures;
}
