-- Name after name: the script of each is appended.
use Rattle.std.proofs.Common.{rules, ◌∙◌, ℕ, List, ap, map, string_bytes, subst, sym, take}
use Rattle.std.specs.List.{Contains}
use Rattle.std.specs.declared.alloc.Global.{Global}
use Rattle.std.specs.declared.string.String.{String}
use Rattle.ws_scripts.specs.CaseNames.{case_names}
use Rattle.wst_commands.specs.PageTexts.{AreScripts, IsScriptOf}
use Rattle.wst_commands.proofs.CaseLemmas.{next_name}
use Rattle.wst_commands.proofs.NamedScripts.{name_of_case, one_more_script}
use Rattle.wst_commands.proofs.page_texts.scripts_of.Goals as goal

pub script_of-requires : goal.script_of-requires
script_of-requires c =
    subst (λ (n : List ℕ). Contains case_names n) (sym c.as_str.ensures.value)
    (name_of_case c.as_slice-name-items.result.now c.loop-name.name-index c.name-item.result (search rules)
    c.name-item.is
    (ap (λ (l : List (String Global)). map string_bytes l) c.as_slice-name-items.ensures ∙ c.in_ok-names.ensures))

pub loop-name-preserved : goal.loop-name-preserved
loop-name-preserved c =
    let names = c.as_slice-name-items.result.now in
    let i = c.loop-name.name-index in
    let name = c.name-item.result in
    let script = c.in_ok-script_of.field-0 in
    let new = c.push.new.self.items in
    subst (λ (l : List (List ℕ)). AreScripts l new) (sym (next_name names i name (search rules) c.name-item.is))
    (one_more_script (map string_bytes (take i names)) (string_bytes name) c.loop-name.scripts.items new script
    c.loop-name.invariant
    (subst (λ (n : List ℕ). IsScriptOf n script) c.as_str.ensures.value c.in_ok-script_of.ensures)
    c.in_ok-push.ensures.items)
