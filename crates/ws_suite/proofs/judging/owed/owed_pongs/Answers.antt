-- One ping more, which is owed or not; and what is known of all of them at the end.
use Rattle.std.proofs.Common.{◌≡◌, ◌∙◌, ◌&&◌, ◌++◌, ◌∷◌, [], Bool, true, false, not, List, ap, refl, sym, subst, rules}
use Rattle.std.proofs.Common.{append_assoc, append-nil}
use Rattle.ws_suite.specs.declared.evidence.InTurn.{InTurn}
use Rattle.ws_suite.specs.declared.evidence.Reply.{Reply}
use Rattle.ws_suite.specs.declared.judging.owed.OwedPongs.{OwedPongs}
use Rattle.ws_suite.specs.InnerMarks.{counted_of}
use Rattle.ws_suite.specs.InnerNoted.{IsAskedFor}
use Rattle.ws_suite.specs.Kept.{reply_in}
use Rattle.ws_suite.specs.Matching.{due_pongs, got_pongs}
use Rattle.ws_suite.specs.Protocol.{is_answered, is_owed}
use Rattle.ws_suite.proofs.CountedPongs.{counted_turns, met_counted}
use Rattle.ws_suite.proofs.NotedLemmas.{asked_at}
use Rattle.ws_suite.proofs.OwedLemmas.{AreSoFar, found_of_all, found_of_met, later_more, none_so_far, owed_more}
use Rattle.ws_suite.proofs.judging.owed.owed_pongs.Goals as goal
use Rattle.ws_suite.proofs.judging.owed.owed_pongs.Goals.{then-lacks_last, else-lacks_last}

pub loop-ping-init : goal.loop-ping-init
loop-ping-init c = ([], sym c.among-pings.ensures, none_so_far (counted_of c.args.marked.now))

pub loop-ping-preserved-then-is_owed : goal.loop-ping-preserved-then-is_owed
loop-ping-preserved-then-is_owed c =
    let i = c.loop-ping.invariant in
    let x = counted_of c.args.marked.now in
    let ping = c.in-Some.ping in
    let first = reply_in ping in
    let answered = c.is_answered-is_answered.result in
    let left : c.loop-ping.pings ≡ first ∷ c.next.new.self = search rules in
    let turns = counted_turns c.args.marked.now c.among.result c.among-2.result c.in_ok-turns.turns c.among.ensures
    c.among-2.ensures c.in_ok-turns.ensures.last in
    let asked = asked_at i.0 c.next.new.self first c.in_ok-turns.turns
    (subst (λ (l : List (InTurn Reply)). IsAskedFor l c.in_ok-turns.turns)
    (c.again.ensures ∙ (c.among-pings.ensures ∙ (i.1 ∙ ap (λ (l : List (InTurn Reply)). i.0 ++ l) left)))
    c.in_ok-turns.ensures.asked) in
    let is : answered ≡ is_answered x first = c.is_answered-is_answered.ensures (got_pongs x) turns asked in
    let owed : is_owed x first ≡ true = sym (c.is_owed.ensures first refl) ∙ search rules in (
      i.0 ++ first ∷ [],
      i.1 ∙ (ap (λ (l : List (InTurn Reply)). i.0 ++ l) left ∙ sym (append_assoc i.0 (first ∷ []) c.next.new.self)),
      owed_more x i.0 first c.loop-ping.lacks_last c.loop-ping.skips_one c.loop-ping.later_is_answered answered
          c.either-skips_one.result i.2 owed is c.either-skips_one.ensures,
    )

pub loop-ping-preserved : goal.loop-ping-preserved
loop-ping-preserved c =
    let i = c.loop-ping.invariant in
    let x = counted_of c.args.marked.now in
    let ping = c.in-Some.ping in
    let first = reply_in ping in
    let answered = c.is_answered-is_answered.result in
    let left : c.loop-ping.pings ≡ first ∷ c.next.new.self = search rules in
    let turns = counted_turns c.args.marked.now c.among.result c.among-2.result c.in_ok-turns.turns c.among.ensures
    c.among-2.ensures c.in_ok-turns.ensures.last in
    let asked = asked_at i.0 c.next.new.self first c.in_ok-turns.turns
    (subst (λ (l : List (InTurn Reply)). IsAskedFor l c.in_ok-turns.turns)
    (c.again.ensures ∙ (c.among-pings.ensures ∙ (i.1 ∙ ap (λ (l : List (InTurn Reply)). i.0 ++ l) left)))
    c.in_ok-turns.ensures.asked) in
    let is : answered ≡ is_answered x first = c.is_answered-is_answered.ensures (got_pongs x) turns asked in
    let owed : is_owed x first ≡ false = sym (c.is_owed.ensures first refl) ∙ search rules in (
      i.0 ++ first ∷ [],
      i.1 ∙ (ap (λ (l : List (InTurn Reply)). i.0 ++ l) left ∙ sym (append_assoc i.0 (first ∷ []) c.next.new.self)),
      later_more x i.0 first c.loop-ping.lacks_last c.loop-ping.skips_one c.loop-ping.later_is_answered answered
          c.either-later_is_answered.result i.2 owed is c.either-later_is_answered.ensures,
    )

pub returns-then-are_all_met : goal.returns-then-are_all_met
returns-then-are_all_met c =
    let m = c.args.marked.now in
    let all = met_counted m (c.are_all_met.ensures c.if-are_all_met.true) in
    found_of_met (counted_of m) c.all_met.result all
    (ap (λ (found : OwedPongs). found.lacks_last) c.all_met.ensures)
    (ap (λ (found : OwedPongs). found.skips_one) c.all_met.ensures)

pub returns : goal.returns
returns c =
    let i = c.loop-ping.invariant in
    let x = counted_of c.args.marked.now in
    let none : c.loop-ping.pings ≡ [] = search rules in
    let all : i.0 ≡ due_pongs x =
    sym (i.1 ∙ (ap (λ (l : List (InTurn Reply)). i.0 ++ l) none ∙ append-nil i.0)) in
    let so_far = subst (λ (l : List (InTurn Reply)). AreSoFar x l c.loop-ping.lacks_last c.loop-ping.skips_one
    c.loop-ping.later_is_answered) all i.2 in
    let later = not c.loop-ping.later_is_answered in
    let lacking : c.if-lacks_last.result ≡ (c.loop-ping.lacks_last && later) = elim c.if-lacks_last.branch [
      | then-lacks_last w ↦ w.result-is ∙ sym (ap (λ (b : Bool). b && later) w.if-lacks_last.true)
      | else-lacks_last w ↦ w.result-is ∙ (w.if-lacks_last.false
          ∙ sym (ap (λ (b : Bool). b && later) w.if-lacks_last.false))
    ] in
    found_of_all x c.loop-ping.lacks_last c.loop-ping.skips_one c.loop-ping.later_is_answered
    (record { lacks_last = c.if-lacks_last.result; skips_one = c.loop-ping.skips_one }) so_far lacking refl
