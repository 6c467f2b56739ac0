-- Reply after reply is noted.
use Rattle.std.proofs.Common.{◌≡◌, ◌∙◌, ◌++◌, ◌∷◌, [], List, ap, append_assoc, append-nil, rules, subst, sym}
use Rattle.ws_suite.specs.declared.evidence.InTurn.{InTurn}
use Rattle.ws_suite.specs.declared.evidence.Reply.{Reply}
use Rattle.ws_suite.specs.Kept.{reply_in}
use Rattle.ws_suite.specs.LastPings.{AreOfTurn, IsLastPingOf}
use Rattle.ws_suite.proofs.evidence.last_ping.LastPing.note_got.Goals as goal

pub loop-reply-init : goal.loop-reply-init
loop-reply-init c =
    let all : c.args.fresh.now ≡ c.iter-left.result = search rules in (
      [],
      all,
      λ turn dues gots of_turn h. (
        subst (λ (l : List (InTurn Reply)). IsLastPingOf turn dues l c.args.self.now) (sym (append-nil gots)) h,
        subst (λ (l : List (InTurn Reply)). AreOfTurn turn l) all of_turn,
      ),
    )

pub loop-reply-preserved : goal.loop-reply-preserved
loop-reply-preserved c =
    let i = c.loop-reply.invariant in
    let first = reply_in c.in-Some.reply in
    let left : c.loop-reply.left ≡ first ∷ c.next.new.self = search rules in (
      i.0 ++ first ∷ [],
      i.1 ∙ (ap (λ (l : List (InTurn Reply)). i.0 ++ l) left ∙ sym (append_assoc i.0 (first ∷ []) c.next.new.self)),
      λ turn dues gots of_turn h.
          let so_far = i.2 turn dues gots of_turn h in
          let rest = subst (λ (l : List (InTurn Reply)). AreOfTurn turn l) left so_far.1 in (
            subst (λ (l : List (InTurn Reply)). IsLastPingOf turn dues l c.note.new.self)
                (append_assoc gots i.0 (first ∷ []))
                (c.in_ok-note.ensures turn dues (gots ++ i.0) rest.0 so_far.0),
            rest.1,
          ),
    )

pub returns : goal.returns
returns c =
    let none : c.loop-reply.left ≡ [] = search rules in
    let all : c.args.fresh.now ≡ c.loop-reply.invariant.0 =
    c.loop-reply.invariant.1 ∙ (ap (λ (l : List (InTurn Reply)). c.loop-reply.invariant.0 ++ l) none
    ∙ append-nil c.loop-reply.invariant.0) in
    λ turn dues gots of_turn h. subst (λ (l : List (InTurn Reply)). IsLastPingOf turn dues (gots ++ l) c.loop-reply.self) (sym all)
    (c.loop-reply.invariant.2 turn dues gots of_turn h).0
