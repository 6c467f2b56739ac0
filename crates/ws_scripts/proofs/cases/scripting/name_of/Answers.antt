-- The names of such a section are numbered.
use Rattle.std.proofs.Common.{◌≡◌, rules, string_bytes}
use Rattle.ws_scripts.specs.CaseNames.{numbered}
use Rattle.ws_scripts.specs.InnerCases.{section_count, section_names}
use Rattle.ws_scripts.proofs.CaseNaming.{named_so}
use Rattle.ws_scripts.proofs.cases.scripting.name_of.Goals as goal
use Rattle.ws_scripts.proofs.cases.scripting.name_of.Goals.{in-Texts, in-Texts-2, in-Texts-3, in-Texts-4, in-Texts-5}

pub returns-in-Texts : goal.returns-in-Texts
returns-in-Texts c =
    let all : section_names c.args.section ≡ numbered c.in-Texts-1.front.now (section_count c.args.section) =
    elim c.in-Texts-1.branch [
      | in-Texts w ↦ search rules
      | in-Texts-2 w ↦ search rules
      | in-Texts-3 w ↦ search rules
      | in-Texts-4 w ↦ search rules
      | in-Texts-5 w ↦ search rules
    ] in
    named_so string_bytes c.args.section c.args.place c.in-Texts-1.front.now c.numbered_name.result all c.requires
    c.numbered_name.ensures
