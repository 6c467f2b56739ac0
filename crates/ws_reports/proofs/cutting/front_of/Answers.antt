-- What ends so is what stands before it, and that.
use Rattle.std.proofs.lemmas.Bool.Decides.{Decides-eqb}
use Rattle.std.proofs.lemmas.Slice.Eq.{strip_suffix_is}
use Rattle.ws_reports.proofs.cutting.front_of.Goals as goal

pub returns : goal.returns
returns c = strip_suffix_is Decides-eqb c.args.bytes.now c.args.back.now c.strip_suffix.result c.strip_suffix.ensures.cases
