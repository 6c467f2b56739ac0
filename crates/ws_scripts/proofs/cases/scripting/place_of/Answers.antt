-- The names of such a section are numbered.
use Rattle.std.proofs.Common.{◌≡◌, rules}
use Rattle.ws_scripts.specs.CaseNames.{numbered}
use Rattle.ws_scripts.specs.InnerCases.{section_count, section_names}
use Rattle.ws_scripts.proofs.CaseNaming.{placed_so}
use Rattle.ws_scripts.proofs.cases.scripting.place_of.Goals as goal
use Rattle.ws_scripts.proofs.cases.scripting.place_of.Goals.{in-Texts, in-Texts-2, in-Texts-3, in-Texts-4, in-Texts-5}

pub returns-in-Texts : goal.returns-in-Texts
returns-in-Texts c =
    let all : section_names c.args.section ≡ numbered c.in-Texts-1.front.now (section_count c.args.section) =
    elim c.in-Texts-1.branch [
      | in-Texts w ↦ search rules
      | in-Texts-2 w ↦ search rules
      | in-Texts-3 w ↦ search rules
      | in-Texts-4 w ↦ search rules
      | in-Texts-5 w ↦ search rules
    ] in
    placed_so c.args.section c.in-Texts-1.front.now c.args.id.now c.count_of.result c.place_by_number.result
    c.count_of.ensures all c.place_by_number.ensures
