-- The names of all places are those of the section.
use Rattle.std.proofs.Common.{◌∙◌, ◌++◌, ℕ, List, ap, arith, map, string_bytes}
use Rattle.std.proofs.lemmas.List.{take_all}
use Rattle.ws_scripts.specs.InnerCases.{section_names}
use Rattle.ws_scripts.proofs.CaseNaming.{count_is, name_pushed}
use Rattle.ws_scripts.proofs.cases.push_names.Goals as goal

pub loop-place-preserved : goal.loop-place-preserved
loop-place-preserved c = name_pushed string_bytes c.args.section c.loop-place.place c.loop-place.names.items
    c.push.new.self.items
    c.in_ok-name_of.field-0 (map string_bytes c.args.names.now.items) c.in_ok-push.ensures.items
    c.in_ok-name_of.ensures c.loop-place.invariant

pub returns : goal.returns
returns c = c.loop-place.invariant ∙ ap (λ (l : List (List ℕ)). map string_bytes c.args.names.now.items ++ l)
    (take_all c.loop-place.place (section_names c.args.section)
    (omega (arith, c.loop-place-test.false, count_is c.args.section, c.count_of-place-end.ensures)))
