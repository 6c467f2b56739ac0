-- Replies that are answered one for one.
use Rattle.std.proofs.Common.{refl, rules}
use Rattle.ws_suite.proofs.judging.findings.findings_of.Goals as goal

pub returns-then-answer_each : goal.returns-then-answer_each
returns-then-answer_each c = c.found_of_answered.ensures c.args.x.now refl (c.answer_each.ensures.0 (search rules))
