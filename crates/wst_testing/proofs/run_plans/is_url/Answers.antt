-- A word is a URL exactly where it holds ://.
use Rattle.std.proofs.Common.{codes}
use Rattle.std.proofs.lemmas.Str.Pattern.{contains_text}
use Rattle.wst_testing.proofs.run_plans.is_url.Goals as goal

pub returns : goal.returns
returns c = contains_text c.contains.result (codes "://") c.args.word.now c.contains.ensures.cases
