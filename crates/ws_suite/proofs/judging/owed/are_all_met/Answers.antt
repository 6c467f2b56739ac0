-- What an echo sends back answers each ping.
use Rattle.ws_suite.specs.Matching.{due_pongs, got_pongs, is_pong}
use Rattle.ws_suite.proofs.AnsweredLemmas.{answered_of_kind, each_is_answered}
use Rattle.ws_suite.proofs.judging.owed.are_all_met.Goals as goal

pub returns-then-answer_each : goal.returns-then-answer_each
returns-then-answer_each c = λ e.
    let x = c.args.x.now in
    each_is_answered (due_pongs x) (got_pongs x)
    (answered_of_kind is_pong x.due.replies x.got.replies (c.answer_each.ensures.0 e))
