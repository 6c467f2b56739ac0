-- Both are passed, and the one has the payload of the other.
use Rattle.std.proofs.Common.{rules}
use Rattle.ws_suite.specs.Kept.{reply_in}
use Rattle.ws_suite.proofs.KeptLemmas.{payload_kept}
use Rattle.ws_suite.proofs.judging.in_step.next_in_step.Goals as goal

pub returns : goal.returns
returns c = record {
  first = reply_in c.in_ok-first.first;
  pong = reply_in c.in_ok-pong.pong;
  of_due = search rules;
  of_got = search rules;
  same = search (rules, payload_kept);
  early = search rules;
}
