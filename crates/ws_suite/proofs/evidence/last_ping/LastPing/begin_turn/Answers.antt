-- No pong was got from the next turn on.
use Rattle.std.proofs.Common.{◌∙◌, sym}
use Rattle.ws_suite.proofs.LastPingLemmas.{none_since}
use Rattle.ws_suite.proofs.evidence.last_ping.LastPing.begin_turn.Goals as goal

pub returns : goal.returns
returns c = λ turn next dues gots all h. record {
  due = h.due;
  is_answered = h.is_answered;
  in_turn = c.clear.ensures ∙ sym (none_since next gots all);
}
