-- What is wrong with the response to node 1 is wrong with the heads.
use Rattle.ws_followed.specs.InnerConversion.{AreHeads, LackHeads}
use Rattle.ws_followed.specs.declared.segment.Node.TheVariants.{One}
use Rattle.ws_followed.proofs.HeadsOfEnds.{passed_on, unanswered}
use Rattle.ws_followed.proofs.conversion.heads_of.Goals as goal

pub returns-in_err-from_server-2 : goal.returns-in_err-from_server-2
returns-in_err-from_server-2 c =
    let zero = c.args.zero.now in
    let one = c.args.one.now in
    let got = c.in-Got-read_request in
    let cause = c.in_err-from_server-2.field-0.0 in
    passed_on (AreHeads zero one) (LackHeads zero one) c.from_residual-in_err-from_server-2.result cause
    c.from_residual-in_err-from_server-2.ensures.1
    (unanswered One zero one cause (got.used, (got.upgrade, got.ensures.read)) c.in_err-from_server-2.ensures.response)
