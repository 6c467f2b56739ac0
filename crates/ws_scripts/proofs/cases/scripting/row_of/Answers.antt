-- Each row is compared with the name.
use Rattle.std.proofs.Common.{List, map, subst, sym}
use Rattle.std.proofs.lemmas.List.{take_all}
use Rattle.std.specs.List.{Contains}
use Rattle.ws_scripts.specs.declared.cases.row.Row.{Row}
use Rattle.ws_scripts.specs.InnerCases.{row_name}
use Rattle.ws_scripts.proofs.CaseNaming.{row_found, row_passed}
use Rattle.ws_scripts.proofs.cases.scripting.row_of.Goals as goal

pub returns-then-eq : goal.returns-then-eq
returns-then-eq c = (
  c.loop-place-test.true,
  row_found c.args.rows.now c.loop-place.place _ c.args.id.now
      c.loop-place-test.true c.if-eq.ensures,
)

pub loop-place-preserved : goal.loop-place-preserved
loop-place-preserved c = row_passed c.args.rows.now c.loop-place.place _ c.args.id.now c.loop-place-test.true
    c.loop-place.invariant c.if-eq.ensures

pub returns : goal.returns
returns c = λ there. c.loop-place.invariant
    (subst (λ (l : List Row). Contains (map row_name l) c.args.id.now) (sym
    (take_all c.loop-place.place c.args.rows.now c.loop-place-test.false)) there)
