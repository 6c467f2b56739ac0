-- One pong more that was got: it is matched with the first due pong from here on that has its payload, or with none.
use Rattle.std.proofs.Common.{◌≡◌, ◌∙◌, ◌∷◌, List, None, find, ap, sym, subst, drop, length, rules, arith}
use Rattle.std.proofs.lemmas.List.{drop-drop, length-drop}
use Rattle.ws_suite.specs.declared.evidence.InTurn.{InTurn}
use Rattle.ws_suite.specs.declared.evidence.Reply.{Reply}
use Rattle.ws_suite.specs.InnerJudging.{AreLastPlaces}
use Rattle.ws_suite.specs.Kept.{reply_in}
use Rattle.ws_suite.specs.Matching.{has_payload_of}
use Rattle.ws_suite.specs.Verdicts.{is_before_match, is_unmatched}
use Rattle.ws_suite.proofs.JudgeLemmas.{match_step}
use Rattle.ws_suite.proofs.judging.pongs.match_others.Goals as goal

pub loop-next-preserved : goal.loop-next-preserved
loop-next-preserved c =
    let i = c.loop-next.invariant in
    let due = c.args.due in
    let next = c.loop-next.next in
    let here = c.loop-next.left in
    let pong = reply_in c.in-Some.pong in
    let first = c.match_first-first.result in
    let e = c.match_first-first.ensures in
    let laters : c.loop-next.got_left ≡ pong ∷ c.next.new.self = search rules in
    record {
      within = omega (
        arith,
        i.within,
        e.within,
        ap (λ (l : List (InTurn Reply)). length l) i.left,
        length-drop next due,
      );
      left = sym (drop-drop first.passed next due)
          ∙ (ap (λ (l : List (InTurn Reply)). drop first.passed l) i.left ∙ e.passed);
      early = match_step is_before_match c.loop-next.is_early first.is_early c.either-is_early.result _
          pong c.loop-next.got_left c.next.new.self here first.left
          laters e.early e.left c.either-is_early.ensures i.early;
      unmatched = match_step is_unmatched c.loop-next.is_unmatched first.is_unmatched c.either-is_unmatched.result _
          pong c.loop-next.got_left c.next.new.self here first.left
          laters e.no_match e.left c.either-is_unmatched.ensures i.unmatched;
    }

pub match_first-first-requires : goal.match_first-first-requires
match_first-first-requires c = λ no.
    let i = c.loop-next.invariant in
    let places = subst (λ (l : List (InTurn Reply)). AreLastPlaces l c.in_ok-places.places)
    c.again.ensures c.in_ok-places.ensures in
    subst (λ (l : List (InTurn Reply)). find (has_payload_of (reply_in c.in-Some.pong)) l ≡ None)
    i.left (c.is_left-is_left.ensures c.args.due places no)
