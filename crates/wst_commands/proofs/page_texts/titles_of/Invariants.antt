-- The titles of the cases so far.
use Rattle.std.proofs.Common.{◌≡◌, ℕ, List, map, string_bytes, take}
use Rattle.ws_titles.specs.Titles.{title_of}
use Rattle.wst_commands.specs.PageTexts.{named_text}
use Rattle.wst_commands.proofs.page_texts.titles_of.Given as goal

abbrev pub invariant-loop-name : goal.invariant-loop-name
invariant-loop-name l = l.titles.items
    ≡ map (λ (name : List ℕ). named_text name (title_of name)) (map string_bytes (take l.name-index l.name-items))
