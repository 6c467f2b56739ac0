-- One more that is over stands last.
use Rattle.std.proofs.Common.{rules, ◌≡◌, ◌∷◌, ◌++◌, [], subst, sym}
use Rattle.wst_errands.specs.Errands.{IsLineSound}
use Rattle.wst_errands.specs.declared.errands.Came.TheVariants.{NotMade}
use Rattle.wst_errands.specs.declared.errands.Stage.TheVariants.{Over}
use Rattle.wst_errands.proofs.LineLemmas.{missed_sound}
use Rattle.wst_errands.proofs.errands.Errands.miss.Goals as goal

pub invariant_of-self-2 : goal.invariant_of-self-2
invariant_of-self-2 g c =
    let inside = c.self.inside in
    let line : c.push_back.new.self.items ≡ inside.line.items ++ Over (NotMade c.args.why) ∷ [] = search rules in
    subst (λ l. IsLineSound inside.all.standings l) (sym line)
    (missed_sound g.M.Machine.agrees g.M.Machine.wants g.M.Machine.gives g.S.NonBlocking.did inside.all.standings
    inside.line.items (NotMade c.args.why) c.self.invariant)
