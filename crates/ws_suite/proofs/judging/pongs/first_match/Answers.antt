-- A due pong with another payload is no match: the first match stands among those after it.
use Rattle.std.proofs.Common.{◌≡◌, ◌∙◌, ◌∷◌, false, List, ap, length, rules, arith}
use Rattle.ws_suite.specs.declared.evidence.InTurn.{InTurn}
use Rattle.ws_suite.specs.declared.evidence.Reply.{Reply}
use Rattle.ws_suite.specs.Kept.{reply_in}
use Rattle.ws_suite.specs.Matching.{has_payload_of}
use Rattle.ws_suite.proofs.ChosenLemmas.{drop_next}
use Rattle.ws_suite.proofs.JudgeLemmas.{found_later}
use Rattle.ws_suite.proofs.KeptLemmas.{payload_kept}
use Rattle.ws_suite.proofs.judging.pongs.first_match.Goals as goal

pub returns-then-eq-clause-passed : goal.returns-then-eq-clause-passed
returns-then-eq-clause-passed c =
    let first = reply_in c.in-Some.one in
    let left : c.loop-one.left ≡ first ∷ c.next.new.self = search rules in
    drop_next c.args.due c.next.new.self c.loop-one.passed first (c.loop-one.invariant.left ∙ left)

pub loop-one-preserved : goal.loop-one-preserved
loop-one-preserved c =
    let i = c.loop-one.invariant in
    let pong = reply_in c.args.pong.now in
    let first = reply_in c.in-Some.one in
    let left : c.loop-one.left ≡ first ∷ c.next.new.self = search rules in
    let not : has_payload_of pong first ≡ false = search (rules, payload_kept) in
    let later = found_later pong first c.loop-one.left c.next.new.self left not in
    record {
      count = omega (arith, i.count, ap (λ (l : List (InTurn Reply)). length l) left);
      left = drop_next c.args.due c.next.new.self c.loop-one.passed first (i.left ∙ left);
      found = i.found ∙ later.0;
      after = i.after ∙ later.1;
    }
