-- Each part is looked at once.
use Rattle.std.proofs.Common.{rules}
use Rattle.ws_paths.proofs.Naming.{found_all, found_more}
use Rattle.ws_paths.proofs.named_case.find_case.Goals as goal

pub loop-part-preserved : goal.loop-part-preserved
loop-part-preserved c =
    found_more c.args.query.now c.loop-part.rest.now c.in-Some.part.now c.in-Some.after.now c.loop-part.found
    c.found_with-found.result c.loop-part.invariant (search rules) (search rules) (search rules)
    c.found_with-found.ensures

pub returns : goal.returns
returns c =
    found_all c.args.query.now c.loop-part.rest.now c.loop-part.found c.found_with.result c.loop-part.invariant
    (search rules) c.found_with.ensures
