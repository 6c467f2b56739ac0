-- Each part is asked for the name.
use Rattle.std.proofs.Common.{ℕ, List, [], string_bytes, subst, sym, arith}
use Rattle.std.specs.List.{Contains}
use Rattle.ws_scripts.specs.declared.script.Case.{Case}
use Rattle.ws_scripts.specs.CaseNames.{case_names}
use Rattle.ws_scripts.specs.InnerCases.{names_by_part, section_names_of}
use Rattle.ws_scripts.proofs.CaseNaming.{among, in_no_more, part_found, part_passed}
use Rattle.ws_scripts.proofs.cases.case.Goals as goal

pub returns-then-is_some-clause-found : goal.returns-then-is_some-clause-found
returns-then-is_some-clause-found c =
    let here = section_names_of c.sections.result.now in
    let id = c.args.id.now in
    part_found (λ (case : Case). string_bytes case.id) here case_names id c.in_ok-found.found c.if-is_some.ensures
    (λ there. among (λ (names : List (List ℕ)). names) names_by_part c.loop-part.part [] id (omega
    (arith, c.loop-part-test.true))
    (subst (λ (l : List (List ℕ)). Contains l id) c.sections.ensures.names there)) c.in_ok-found.ensures.found

pub loop-part-preserved : goal.loop-part-preserved
loop-part-preserved c =
    let here = section_names_of c.sections.result.now in
    let id = c.args.id.now in
    in_no_more (λ (names : List (List ℕ)). names) names_by_part c.loop-part.part [] id (omega
    (arith, c.loop-part-test.true))
    c.loop-part.invariant
    (λ there. part_passed (λ (case : Case). string_bytes case.id) here id c.in_ok-found.found c.if-is_some.ensures
    c.in_ok-found.ensures.found
    (subst (λ (l : List (List ℕ)). Contains l id) (sym c.sections.ensures.names) there))
