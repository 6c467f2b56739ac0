-- The names of the groups so far.
use Rattle.std.proofs.Common.{◌≡◌, ℕ, List, map, take}
use Rattle.ws_titles.specs.Titles.{title_pair}
use Rattle.wst_commands.specs.PageTexts.{named_text}
use Rattle.wst_commands.proofs.page_texts.groups_of.Given as goal

abbrev pub invariant-loop-group : goal.invariant-loop-group
invariant-loop-group l = l.groups.items
    ≡ map (λ (group : List ℕ × List ℕ). named_text group.0 group.1) (map title_pair (take l.group-index l.group-items))
