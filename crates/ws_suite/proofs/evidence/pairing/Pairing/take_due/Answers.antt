-- Reply after reply is compared.
use Rattle.std.proofs.Common.{◌≡◌, ◌∙◌, ◌++◌, ◌∷◌, [], List, ap, append_assoc, append-nil, rules, subst, sym}
use Rattle.ws_suite.specs.declared.evidence.InTurn.{InTurn}
use Rattle.ws_suite.specs.declared.evidence.Reply.{Reply}
use Rattle.ws_suite.specs.Kept.{reply_in}
use Rattle.ws_suite.specs.Pairings.{IsPairingOf}
use Rattle.ws_suite.proofs.evidence.pairing.Pairing.take_due.Goals as goal

pub loop-reply-init : goal.loop-reply-init
loop-reply-init c = (
  [],
  search rules,
  λ dues gots h. subst (λ (l : List (InTurn Reply)). IsPairingOf l gots c.args.self.now) (sym (append-nil dues)) h,
)

pub loop-reply-preserved : goal.loop-reply-preserved
loop-reply-preserved c =
    let i = c.loop-reply.invariant in
    let first = reply_in c.in-Some.reply in
    let left : c.loop-reply.left ≡ first ∷ c.next.new.self = search rules in (
      i.0 ++ first ∷ [],
      i.1 ∙ (ap (λ (l : List (InTurn Reply)). i.0 ++ l) left ∙ sym (append_assoc i.0 (first ∷ []) c.next.new.self)),
      λ dues gots h. subst (λ (l : List (InTurn Reply)). IsPairingOf l gots c.add_due.new.self) (append_assoc dues i.0
          (first ∷ []))
          (c.in_ok-add_due.ensures (dues ++ i.0) gots (i.2 dues gots h)),
    )

pub returns : goal.returns
returns c =
    let none : c.loop-reply.left ≡ [] = search rules in
    let all : c.args.fresh.now ≡ c.loop-reply.invariant.0 =
    c.loop-reply.invariant.1 ∙ (ap (λ (l : List (InTurn Reply)). c.loop-reply.invariant.0 ++ l) none
    ∙ append-nil c.loop-reply.invariant.0) in
    λ dues gots h. subst (λ (l : List (InTurn Reply)). IsPairingOf (dues ++ l) gots c.loop-reply.self) (sym all)
    (c.loop-reply.invariant.2 dues gots h)
