-- What stands behind the front and the dot is read.
use Rattle.std.proofs.Common.{◌≡◌, ◌≢◌, ◌++◌, ℕ, List, Option, Some, MatchOption, Bor, codes, subst, rules}
use Rattle.std.specs.Fmt.{decimal}
use Rattle.std.proofs.lemmas.Bool.Decides.{Decides-eqb}
use Rattle.std.proofs.lemmas.Slice.Eq.{strip_prefix_is}
use Rattle.ws_scripts.proofs.CaseNaming.{behind_dot, told_number}
use Rattle.ws_scripts.proofs.cases.scripting.number_behind.Goals as goal

pub returns-in-Some-eq46 : goal.returns-in-Some-eq46
returns-in-Some-eq46 c =
    let front = c.args.front.now in
    let name = c.args.name.now in
    let rest = c.in-Some-eq46.field-0.now in
    let parts : name ≡ front ++ rest = strip_prefix_is Decides-eqb name front
    (Some c.in-Some-eq46.field-0) c.in-Some-eq46.ensures.cases in
    told_number front name _ c.read_u32.result (behind_dot front name rest parts c.in-Some-eq46.len_at_least
    (search rules)) c.read_u32.ensures

pub returns-in_default-3 : goal.returns-in_default-3
returns-in_default-3 c =
    let front = c.args.front.now in
    let name = c.args.name.now in
    let none = subst (λ (r : Option (Bor (List ℕ))). MatchOption r ((rest : List ℕ)
    → name ≢ front ++ rest) (λ x. name ≡ front ++ x.now))
    c.in_default.is (strip_prefix_is Decides-eqb name front c.strip_prefix.result c.strip_prefix.ensures.cases) in
    λ value told. none (codes "." ++ decimal value) told.1
