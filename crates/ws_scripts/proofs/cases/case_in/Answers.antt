-- Each section is asked for the name.
use Rattle.std.proofs.Common.{List, subst, sym}
use Rattle.std.proofs.lemmas.List.{take_all}
use Rattle.std.specs.List.{Contains}
use Rattle.ws_scripts.specs.declared.cases.row.Section.{Section}
use Rattle.ws_scripts.specs.InnerCases.{section_names_of}
use Rattle.ws_scripts.proofs.CaseNaming.{section_found, section_passed}
use Rattle.ws_scripts.proofs.cases.case_in.Goals as goal

pub returns-in-Some-clause-found : goal.returns-in-Some-clause-found
returns-in-Some-clause-found c = (
  section_found c.args.sections.now c.loop-section.section-index _ c.in-Some.place c.args.id.now
      c.loop-section-test.true c.in-Some.ensures,
  c.in_ok-case.ensures.name,
)

pub loop-section-preserved : goal.loop-section-preserved
loop-section-preserved c = section_passed c.args.sections.now c.loop-section.section-index _ c.args.id.now
    c.loop-section-test.true
    c.loop-section.invariant c.in_default.ensures

pub returns-clause-found : goal.returns-clause-found
returns-clause-found c = λ there. c.loop-section.invariant (subst (λ (l : List Section). Contains
    (section_names_of l) c.args.id.now)
    (sym (take_all c.loop-section.section-index c.args.sections.now c.loop-section-test.false)) there)
