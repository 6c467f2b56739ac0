-- The fronts are taken one after the other.
use Rattle.std.proofs.Common.{◌≡◌, ◌∙◌, ◌-◌, ◌++◌, [], ℕ, List, ap, sym, subst, refl, arith, length, take, drop}
use Rattle.std.proofs.Common.{append_assoc, append-nil}
use Rattle.std.proofs.lemmas.List.{length-drop, take-append-drop, take_all}
use Rattle.ws_faults.specs.Finding.{HasSearched}
use Rattle.ws_faults.proofs.finding.FaultFinder.take.Goals as goal

pub loop-rest-init : goal.loop-rest-init
loop-rest-init c = (
  [],
  refl,
  λ role bytes h. subst (λ (l : List ℕ). HasSearched role c.args.self.now l) (sym (append-nil bytes)) h,
)

pub loop-rest-preserved : goal.loop-rest-preserved
loop-rest-preserved c =
    let rest = c.loop-rest.rest.now in
    let used = c.in_ok-used.used in
    let part = take used rest in
    let after = take (length rest - used) (drop used rest) in
    let whole : after ≡ drop used rest =
    take_all (length rest - used) (drop used rest) (omega (arith, length-drop used rest)) in
    let split : rest ≡ part ++ after =
    sym (take-append-drop used rest) ∙ ap (λ (l : List ℕ). part ++ l) (sym whole) in
    let i = c.loop-rest.invariant in (
      i.0 ++ part,
      i.1 ∙ (ap (λ (l : List ℕ). i.0 ++ l) split ∙ sym (append_assoc i.0 part after)),
      λ role bytes h. subst (λ (l : List ℕ). HasSearched role c.take_front.new.self l) (append_assoc bytes i.0 part)
          (c.in_ok-used.ensures.taken role (bytes ++ i.0) (i.2 role bytes h)),
    )
