-- A reply that stands next in both lists is passed in both, and what is left of them decides as before.
use Rattle.std.proofs.Common.{◌≡◌, ◌∷◌, List, sym, subst, rules}
use Rattle.ws_suite.specs.declared.evidence.InTurn.{InTurn}
use Rattle.ws_suite.specs.declared.evidence.Reply.{Reply}
use Rattle.ws_suite.specs.InnerChosen.{IsThere}
use Rattle.ws_suite.specs.Kept.{first_of, reply_in, what_of}
use Rattle.ws_suite.specs.Matching.{IsWithSomeLeftOut, bare}
use Rattle.ws_suite.proofs.ChosenLemmas.{left_there}
use Rattle.ws_suite.proofs.judging.replies.are_left.Goals as goal

pub loop-reply-preserved-then-is_there : goal.loop-reply-preserved-then-is_there
loop-reply-preserved-then-is_there c =
    let i = c.loop-reply.invariant in
    let reply = c.in-Some.reply in
    let alls = c.next.new.self in
    let first = first_of c.loop-reply.first c.loop-reply.left in
    let there : IsThere (what_of reply) c.loop-reply.first = search rules in
    let both = left_there reply c.loop-reply.first c.loop-reply.left alls there in
    let split : c.loop-reply.all_left ≡ reply_in reply ∷ alls = search rules in
    let left : c.loop-reply.left
    ≡ first_of c.next-first-then-is_there.result c.next-first-then-is_there.new.self = search rules in
    record {
      back = λ h. i.back (subst (λ (l : List (InTurn Reply)). IsWithSomeLeftOut (bare first) (bare l)) (sym split)
          (both.1 (subst (λ (l : List (InTurn Reply)). IsWithSomeLeftOut (bare l) (bare alls)) (sym left) h)));
      on = λ h. subst (λ (l : List (InTurn Reply)). IsWithSomeLeftOut (bare l) (bare alls)) left
          (both.0 (subst (λ (l : List (InTurn Reply)). IsWithSomeLeftOut (bare first) (bare l)) split (i.on h)));
    }
