-- What stands at the place of a case.
use Rattle.std.proofs.Common.{rules, ◌≡◌, ◌-◌, ◌∙◌, List, ap, slice_index_or}
use Rattle.std.proofs.lemmas.List.{get_or_default}
use Rattle.ws_paths.specs.declared.behavior.Behavior.{Behavior}
use Rattle.ws_paths.specs.declared.behavior.Behavior.TheVariants.{Unimplemented}
use Rattle.ws_paths.proofs.standing.Standing.behavior.Goals as goal

pub returns : goal.returns
returns c =
    let same : c.self.inside.behaviors.items ≡ c.args.self.now.behaviors = search rules in
    c.index.ensures ∙ get_or_default c.self.inside.behaviors.items (c.args.number - 1) c.index.result.now Unimplemented
    (search rules) ∙ ap (λ (l : List Behavior). slice_index_or l (c.args.number - 1) Unimplemented) same
