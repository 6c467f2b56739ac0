-- The last turn of the ping's payload is no earlier one where a pong answers the ping.
use Rattle.std.proofs.Common.{◌∙◌, ℕ, List, ap, sym}
use Rattle.ws_suite.specs.InnerNoted.{noted_of, reaches}
use Rattle.ws_suite.specs.Kept.{reply_in}
use Rattle.ws_suite.proofs.KeptLemmas.{payload_kept}
use Rattle.ws_suite.proofs.LastTurns.{answered_by}
use Rattle.ws_suite.proofs.judging.owed.is_answered.Goals as goal

pub returns : goal.returns
returns c = λ gots are asked.
    let turns = c.args.turns.now in
    let ping = c.args.ping.now in
    c.reaches.ensures ∙ (ap (λ (payload : List ℕ). reaches turns.has_all ping.turn (noted_of turns payload))
    (sym (payload_kept ping.kind ping.payload.now)) ∙ answered_by gots turns (reply_in ping) are asked)
