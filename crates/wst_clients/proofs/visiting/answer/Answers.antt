-- The text that is asked for is told by its script, which is begun where a stream is held.
use Rattle.wst_clients.proofs.VisitingLemmas.{tells_there}
use Rattle.wst_clients.proofs.visiting.answer.Goals as goal

pub returns-clause-tells : goal.returns-clause-tells
returns-clause-tells g c =
    (c.in_ok-script.script, (c.in_ok-text.text, c.in_ok-text.ensures, c.in_ok-script.ensures.tells))

pub returns-clause-begun : goal.returns-clause-begun
returns-clause-begun g c = tells_there g.L.Client.NonBlocking.did c.args.round.rules.now c.args.round.standing.now
    c.args.purpose c.args.behind.items c.args.at c.args.visitors.now c.play.new.self c.in_ok-script.script
    c.in_ok-tester.tester c.play.result
    (c.in_ok-text.text, c.in_ok-text.ensures, c.in_ok-script.ensures.tells) c.in_ok-tester.ensures.begins
    c.play.ensures.begins c.play.ensures.played
