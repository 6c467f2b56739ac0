-- Where nothing may be due in a place that isn't listed, those that are listed are served.
use Rattle.ws_loops.proofs.inside.serve.Goals as goal

pub serve_listed-requires-clause-some : goal.serve_listed-requires-clause-some
serve_listed-requires-clause-some g c = (c.may_any_be_due.ensures c.if-may_any_be_due.false).0

pub serve_listed-requires-clause-early : goal.serve_listed-requires-clause-early
serve_listed-requires-clause-early g c = (c.may_any_be_due.ensures c.if-may_any_be_due.false).1
