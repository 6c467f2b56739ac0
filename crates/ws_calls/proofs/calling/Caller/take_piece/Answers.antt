-- The halves are taken one after the other, and then what is left.
use Rattle.std.proofs.Common.{◌≡◌, ◌∙◌, ◌++◌, ◌/◌, [], ℕ, List, take, ap, ap₂, refl, sym, subst, append_assoc}
use Rattle.std.proofs.lemmas.List.{take-append-drop}
use Rattle.ws_calls.specs.InnerSteps.{HasToldPart}
use Rattle.ws_calls.proofs.PartByPart.{none_told, one_more_told}
use Rattle.ws_calls.proofs.calling.Caller.take_piece.Goals as goal

pub halves-init : goal.halves-init
halves-init g c = ([], refl, none_told g.E.Scripted.value g.E.Scripted.reply c.args.self.now c.args.key)

pub halves-preserved : goal.halves-preserved
halves-preserved g c =
    let rest = c.halves.piece.items in
    let half = c.len-half.result / 2 in
    let part = take half c.as_slice.result.now in
    let after = c.drop_front.new.bytes.items in
    let split : rest ≡ part ++ after = sym (ap₂ (λ (l m : List ℕ). take half l ++ m) c.as_slice.ensures.value c.drop_front.ensures
    ∙ take-append-drop half rest) in
    let i = c.halves.invariant in (
      i.0 ++ part,
      i.1 ∙ (ap (λ (l : List ℕ). i.0 ++ l) split ∙ sym (append_assoc i.0 part after)),
      one_more_told g.E.Scripted.value g.E.Scripted.reply c.one_list_of_events.ensures c.replies_go_on.ensures
          c.args.self.now c.halves.self c.take_parts.new.self i.0 part c.args.key i.2 c.in_ok-take_parts.ensures,
    )

pub returns : goal.returns
returns g c =
    let i = c.halves.invariant in
    let rest = c.halves.piece.items in
    let all : i.0 ++ rest ≡ c.args.piece.now.items = sym i.1 in
    subst (λ (l : List ℕ). HasToldPart g.E.Scripted.value g.E.Scripted.reply c.args.self.now c.take_parts-2.new.self l c.args.key) all
    (one_more_told g.E.Scripted.value g.E.Scripted.reply c.one_list_of_events.ensures c.replies_go_on.ensures
    c.args.self.now c.halves.self c.take_parts-2.new.self i.0 rest c.args.key i.2
    (subst (λ (l : List ℕ). HasToldPart g.E.Scripted.value g.E.Scripted.reply c.halves.self c.take_parts-2.new.self l c.args.key)
    c.as_slice-2.ensures.value c.in_ok-take_parts-2.ensures))
