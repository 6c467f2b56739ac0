-- The first one is handed out, and the others move up.
use Rattle.std.proofs.Common.{rules, ◌≡◌, ◌∷◌}
use Rattle.wst_errands.specs.declared.errands.Stage.TheVariants.{Over}
use Rattle.wst_errands.proofs.LineLemmas.{first_sound}
use Rattle.wst_errands.proofs.errands.Errands.take_first.Goals as goal

pub invariant_of-self : goal.invariant_of-self
invariant_of-self g c =
    let inside = c.self.inside in
    let first : inside.line.items ≡ Over c.in-Some-Over.came ∷ c.pop_front.new.self.items = search rules in
    first_sound g.M.Machine.agrees g.M.Machine.wants g.M.Machine.gives g.S.NonBlocking.did inside.all.standings
    c.in-Some-Over.came inside.line.items c.pop_front.new.self.items first c.self.invariant
