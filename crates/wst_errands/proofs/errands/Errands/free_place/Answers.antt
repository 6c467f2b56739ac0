-- Where no place is free, one at least is under way.
use Rattle.std.proofs.Common.{rules, ◌≡◌, ◌∙◌, ◌<◌, MatchOption, ap, length, subst, sym}
use Rattle.ws_networks.specs.NetworkLoops.{IsFirstOfFree, NoneIsFree}
use Rattle.wst_errands.specs.Errands.{count_under_way}
use Rattle.wst_errands.proofs.LineLemmas.{all_busy}
use Rattle.wst_errands.proofs.errands.Errands.free_place.Goals as goal

pub returns-clause-busy : goal.returns-clause-busy
returns-clause-busy g c none some =
    let all = c.free_place.new.self in
    let inside = c.self.inside in
    let free = subst (λ o. MatchOption o (NoneIsFree all.standings) (IsFirstOfFree all.standings)) none
    c.free_place.ensures.free in
    let none_free = subst (λ l. NoneIsFree l) (ap (λ x. x.standings) c.free_place.ensures.same) free in
    let there : inside.all.standings ≡ c.args.self.now.standings = search rules in
    let line : inside.line.items ≡ c.args.self.now.line = search rules in
    let len : 0 < length inside.all.standings = subst (λ n. 0 < n)
    (sym (ap (λ l. length l) there ∙ c.requires)) some in
    subst (λ l. 0 < count_under_way l) line
    (all_busy g.M.Machine.agrees g.M.Machine.wants g.M.Machine.gives g.S.NonBlocking.did inside.all.standings
    inside.line.items c.self.invariant none_free len)
