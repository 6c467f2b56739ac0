-- The fronts are taken one after the other.
use Rattle.std.proofs.Common.{◌≡◌, ◌∙◌, ◌-◌, ◌++◌, ◌∷◌, [], ℕ, List, ap, sym, subst, refl, arith, rules, length, take, drop, append_assoc, append-nil}
use Rattle.std.proofs.lemmas.List.{length-drop, take-append-drop, take_all}
use Rattle.ws_suite.specs.InnerCollecting.{HasTakenWay}
use Rattle.ws_suite.specs.InnerMarks.{HasSeenBytes}
use Rattle.ws_suite.proofs.evidence.collecting.take_part.Goals as goal

pub loop-rest-init : goal.loop-rest-init
loop-rest-init g c = (
  [],
  refl,
  λ handed role turns last number h. subst (λ (l : List ℕ). HasTakenWay (g.K.KeepsReplies.keeps handed) c.args.way role (turns ++ l ∷ []) c.args.taken.now.session c.args.taken.now.collected) (sym (append-nil last)) h,
  λ role bytes h. subst (λ (l : List ℕ). HasSeenBytes role c.args.taken.now.session l c.args.taken.now.seen) (sym (append-nil bytes)) h,
  λ over. refl,
)

pub loop-rest-preserved : goal.loop-rest-preserved
loop-rest-preserved g c =
    let rest = c.loop-rest.rest.now in
    let used = c.in_ok-front.front.used in
    let part = take used rest in
    let after = take (length rest - used) (drop used rest) in
    let whole : after ≡ drop used rest = take_all (length rest - used) (drop used rest) (omega (arith, length-drop used rest)) in
    let split : rest ≡ part ++ after = sym (take-append-drop used rest) ∙ ap (λ (l : List ℕ). part ++ l) (sym whole) in
    let i = c.loop-rest.invariant in (
      i.0 ++ part,
      i.1 ∙ (ap (λ (l : List ℕ). i.0 ++ l) split ∙ sym (append_assoc i.0 part after)),
      λ handed role turns last number h. subst (λ (l : List ℕ). HasTakenWay (g.K.KeepsReplies.keeps handed) c.args.way role (turns ++ l ∷ []) c.take_front.new.taken.session c.take_front.new.taken.collected) (append_assoc last i.0 part)
          (c.in_ok-front.ensures.taken c.session_laws.ensures handed role turns (last ++ i.0) number (i.2 handed role turns last number h)),
      λ role bytes h. subst (λ (l : List ℕ). HasSeenBytes role c.take_front.new.taken.session l c.take_front.new.taken.seen) (append_assoc bytes i.0 part)
          (c.in_ok-front.ensures.seen role (bytes ++ i.0) (i.3 role bytes h)),
      λ over. search rules,
    )
