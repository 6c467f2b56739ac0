-- A due pong with another payload is no match: the first match stands among those after it.
use Rattle.std.proofs.Common.{◌≡◌, ◌∙◌, ◌∷◌, Bool, true, false, cond, if◌then◌else◌}
use Rattle.std.proofs.Common.{List, Some, ap, sym, find, length, rules, arith}
use Rattle.ws_suite.specs.declared.evidence.InTurn.{InTurn}
use Rattle.ws_suite.specs.declared.evidence.Reply.{Reply}
use Rattle.ws_suite.specs.Kept.{reply_in}
use Rattle.ws_suite.specs.Matching.{after_match, has_payload_of}
use Rattle.ws_suite.proofs.ChosenLemmas.{drop_next}
use Rattle.ws_suite.proofs.JudgeLemmas.{found_later}
use Rattle.ws_suite.proofs.KeptLemmas.{payload_kept}
use Rattle.ws_suite.proofs.evidence.kept.waiting.place_of_match.Goals as goal

pub returns-then-eq : goal.returns-then-eq
returns-then-eq c =
    let i = c.loop-one.invariant in
    let pong = reply_in c.args.pong.now in
    let first = reply_in c.in-Some.one in
    let later = c.next.new.self in
    let left : c.loop-one.left ≡ first ∷ later = search rules in
    let is : has_payload_of pong first ≡ true = search (rules, payload_kept) in (
      first,
      i.found ∙ (ap (λ (l : List (InTurn Reply)). find (has_payload_of pong) l) left
          ∙ ap (λ (b : Bool). cond b (Some first) (find (has_payload_of pong) later)) is),
      drop_next c.args.due later c.loop-one.passed first (i.left ∙ left)
          ∙ sym (i.after ∙ (ap (λ (l : List (InTurn Reply)). after_match pong l) left
          ∙ ap (λ (b : Bool). if b then later else after_match pong later) is)),
      omega (arith, i.count, ap (λ (l : List (InTurn Reply)). length l) left),
    )

pub loop-one-preserved : goal.loop-one-preserved
loop-one-preserved c =
    let i = c.loop-one.invariant in
    let pong = reply_in c.args.pong.now in
    let first = reply_in c.in-Some.one in
    let left : c.loop-one.left ≡ first ∷ c.next.new.self = search rules in
    let not : has_payload_of pong first ≡ false = search (rules, payload_kept) in
    let later = found_later pong first c.loop-one.left c.next.new.self left not in
    record {
      count = omega (arith, i.count, ap (λ (l : List (InTurn Reply)). length l) left);
      left = drop_next c.args.due c.next.new.self c.loop-one.passed first (i.left ∙ left);
      found = i.found ∙ later.0;
      after = i.after ∙ later.1;
    }
