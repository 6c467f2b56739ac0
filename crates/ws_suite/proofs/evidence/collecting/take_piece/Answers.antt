-- The parts are taken one after the other.
use Rattle.std.proofs.Common.{◌≡◌, ◌∙◌, ◌++◌, ◌∷◌, [], ℕ, List, ap, sym, subst, refl, rules, append_assoc, append-nil}
use Rattle.ws_suite.specs.InnerCollecting.{HasTakenWay}
use Rattle.ws_suite.specs.InnerMarks.{HasSeenBytes}
use Rattle.ws_suite.proofs.evidence.collecting.take_piece.Goals as goal

pub loop-rest-init : goal.loop-rest-init
loop-rest-init g c = (
  [],
  refl,
  λ handed role turns last number h. subst (λ (l : List ℕ). HasTakenWay (g.K.KeepsReplies.keeps handed) c.args.way role (turns ++ l ∷ []) c.args.taken.now.session c.args.taken.now.collected) (sym (append-nil last)) h,
  λ role bytes h. subst (λ (l : List ℕ). HasSeenBytes role c.args.taken.now.session l c.args.taken.now.seen) (sym (append-nil bytes)) h,
  λ over. refl,
)

pub loop-rest-preserved : goal.loop-rest-preserved
loop-rest-preserved g c =
    let rest = c.loop-rest.rest.now in
    let part = c.cut_part.result.0.now in
    let after = c.cut_part.result.1.now in
    let split : rest ≡ part ++ after = sym c.cut_part.ensures.whole in
    let h = c.in_ok-take_part.ensures in
    let i = c.loop-rest.invariant in (
      i.0 ++ part,
      i.1 ∙ (ap (λ (l : List ℕ). i.0 ++ l) split ∙ sym (append_assoc i.0 part after)),
      λ handed role turns last number way. subst (λ (l : List ℕ). HasTakenWay (g.K.KeepsReplies.keeps handed) c.args.way role (turns ++ l ∷ []) c.take_part.new.taken.session c.take_part.new.taken.collected) (append_assoc last i.0 part)
          (h.taken handed role turns (last ++ i.0) number (i.2 handed role turns last number way)),
      λ role bytes seen. subst (λ (l : List ℕ). HasSeenBytes role c.take_part.new.taken.session l c.take_part.new.taken.seen) (append_assoc bytes i.0 part)
          (h.seen role (bytes ++ i.0) (i.3 role bytes seen)),
      λ over. search rules,
    )
