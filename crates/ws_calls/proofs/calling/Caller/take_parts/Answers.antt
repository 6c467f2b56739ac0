-- The parts are taken one after the other.
use Rattle.std.proofs.Common.{◌≡◌, ◌≤◌, ◌∙◌, ◌++◌, [], ℕ, List, ap, sym, subst, refl, rules, length, append_assoc, append-nil}
use Rattle.ws_calls.specs.InnerSteps.{HasToldPart}
use Rattle.ws_calls.proofs.PartByPart.{none_told, one_more_told}
use Rattle.ws_calls.proofs.Parts.{no_bytes}
use Rattle.ws_calls.proofs.calling.Caller.take_parts.Goals as goal

pub loop-rest-init : goal.loop-rest-init
loop-rest-init g c = ([], refl, none_told g.E.Scripted.value g.E.Scripted.reply c.args.self.now c.args.key)

pub loop-rest-preserved : goal.loop-rest-preserved
loop-rest-preserved g c =
    let part = c.cut_part.result.0.now in
    let after = c.cut_part.result.1.now in
    let i = c.loop-rest.invariant in (
      i.0 ++ part,
      i.1 ∙ (ap (λ (l : List ℕ). i.0 ++ l) (sym c.cut_part.ensures.whole) ∙ sym (append_assoc i.0 part after)),
      one_more_told g.E.Scripted.value g.E.Scripted.reply c.one_list_of_events.ensures c.replies_go_on.ensures
          c.args.self.now c.loop-rest.self c.take_part.new.self i.0 part c.args.key i.2 c.in_ok-take_part.ensures,
    )

pub returns : goal.returns
returns g c =
    let i = c.loop-rest.invariant in
    let short : length c.loop-rest.rest.now ≤ 0 = search rules in
    let none : c.loop-rest.rest.now ≡ [] = no_bytes c.loop-rest.rest.now short in
    let all : i.0 ≡ c.args.piece.now = sym (i.1 ∙ (ap (λ (l : List ℕ). i.0 ++ l) none ∙ append-nil i.0)) in
    subst (λ (l : List ℕ). HasToldPart g.E.Scripted.value g.E.Scripted.reply c.args.self.now c.loop-rest.self l c.args.key)
    all i.2
