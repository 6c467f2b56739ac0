-- One more stands last, and the others where they stood.
use Rattle.std.proofs.Common.{rules, ◌≡◌, ◌∙◌, ◌∷◌, ◌++◌, [], Some, ap, slice_set, subst, sym}
use Rattle.std.specs.List.{slice_get}
use Rattle.ws_networks.specs.NetworkLoops.{standing_by}
use Rattle.ws_networks.specs.NetworkLoops.Standing.{Free}
use Rattle.wst_errands.specs.Errands.{IsLineSound, count_under_way}
use Rattle.wst_errands.specs.declared.errands.Stage.TheVariants.{UnderWay}
use Rattle.wst_errands.proofs.LineLemmas.{begun_keeps, begun_sound, begun_stands, one_more_way}
use Rattle.wst_errands.proofs.WayLemmas.{begun_is, way_begun}
use Rattle.wst_errands.proofs.errands.Errands.begin.Goals as goal

pub invariant_of-self-2 : goal.invariant_of-self-2
invariant_of-self-2 g c =
    let inside = c.self.inside in
    let opened = c.connect.ensures.opened in
    let machine = c.args.attempt.machine in
    let bounds = c.args.attempt.bounds in
    let free : slice_get inside.all.standings c.args.at ≡ Some Free = search rules in
    let line : c.push_back.new.self.items ≡ inside.line.items ++ UnderWay c.args.at ∷ [] = search rules in
    let is = begun_is g.M.Machine.agrees g.M.Machine.wants g.M.Machine.gives g.S.NonBlocking.did machine bounds
    c.args.now opened.came in
    let x = standing_by machine bounds c.args.now opened.came in
    let sound = begun_sound g.M.Machine.agrees g.M.Machine.wants g.M.Machine.gives g.S.NonBlocking.did c.args.at x is
    inside.all.standings inside.line.items free c.self.invariant in
    subst (λ s. IsLineSound s c.push_back.new.self.items) (sym opened.stands)
    (subst (λ l. IsLineSound (slice_set inside.all.standings c.args.at x) l) (sym line) sound)

pub returns-clause-begun : goal.returns-clause-begun
returns-clause-begun g c =
    let inside = c.self.inside in
    let opened = c.connect.ensures.opened in
    let machine = c.args.attempt.machine in
    let bounds = c.args.attempt.bounds in
    let line : c.push_back.new.self.items ≡ c.args.self.now.line ++ UnderWay c.args.at ∷ [] = search rules in
    let there : inside.all.standings ≡ c.args.self.now.standings = search rules in
    let is = begun_is g.M.Machine.agrees g.M.Machine.wants g.M.Machine.gives g.S.NonBlocking.did machine bounds
    c.args.now opened.came in
    let x = standing_by machine bounds c.args.now opened.came in
    let way = way_begun g.M.Machine.agrees g.M.Machine.wants g.M.Machine.gives g.S.NonBlocking.did machine bounds
    c.args.now c.args.attempt.addresses.items opened.came opened.dialled.kept opened.fresh in
    begun_stands g.M.Machine.agrees g.M.Machine.wants g.M.Machine.gives g.S.NonBlocking.did c.args.at x is
    c.args.self.now _ c.requires.free (opened.stands ∙ ap (λ l. slice_set l c.args.at x) there) line machine bounds
    c.args.now c.requires.untold way

pub returns-clause-others : goal.returns-clause-others
returns-clause-others g c time =
    let inside = c.self.inside in
    let opened = c.connect.ensures.opened in
    let machine = c.args.attempt.machine in
    let bounds = c.args.attempt.bounds in
    let line : c.push_back.new.self.items ≡ c.args.self.now.line ++ UnderWay c.args.at ∷ [] = search rules in
    let there : inside.all.standings ≡ c.args.self.now.standings = search rules in
    let is = begun_is g.M.Machine.agrees g.M.Machine.wants g.M.Machine.gives g.S.NonBlocking.did machine bounds
    c.args.now opened.came in
    let x = standing_by machine bounds c.args.now opened.came in
    begun_keeps g.M.Machine.agrees g.M.Machine.wants g.M.Machine.gives g.S.NonBlocking.did c.args.at x is
    c.args.self.now _ c.requires.free (opened.stands ∙ ap (λ l. slice_set l c.args.at x) there) line time

pub returns-clause-more : goal.returns-clause-more
returns-clause-more g c =
    let line : c.push_back.new.self.items ≡ c.args.self.now.line ++ UnderWay c.args.at ∷ [] = search rules in
    ap (λ l. count_under_way l) line ∙ one_more_way c.args.self.now.line c.args.at
