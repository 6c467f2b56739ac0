-- What the words of a verdict mean: a mark, and the name of a rule.
use Rattle.std.specs.Prelude.{ℕ, nat_eq, Bool, true, false, List, [], ◌∷◌, Option, Some, None, codes, drop}
use Rattle.std.specs.Prelude.{if◌then◌else◌}
use Rattle.std.specs.List.{starts_with}
use Rattle.std.specs.Str.{bytes_eq}
use Rattle.ws_runs.specs.Runs.{ResultValue}
use Rattle.ws_runs.specs.declared.mark.Mark.{Mark}
use Rattle.ws_runs.specs.declared.mark.Mark.TheVariants.{Fail, Loose, Missing, NoConnection, Pass}

-- the mark of the words of a verdict
abbrev pub mark_of_words : List ℕ → Mark
mark_of_words words =
    if bytes_eq words (codes "PASS") then Pass
    else (if starts_with nat_eq words (codes "LOOSE ") then Loose
    else (if starts_with nat_eq words (codes "FAIL ") then Fail
    else NoConnection))

-- the mark of a cell: a case that wasn't run has none of these
abbrev pub cell_mark : Option ResultValue → Mark
cell_mark None = Missing
cell_mark (Some result) = mark_of_words result.words

-- two marks are the same
abbrev pub same_mark : Mark → Mark → Bool
same_mark Pass Pass = true
same_mark Loose Loose = true
same_mark Fail Fail = true
same_mark NoConnection NoConnection = true
same_mark Missing Missing = true
same_mark _ _ = false

-- the name without the word for one of two hops, if there is one
abbrev pub after_hop : List ℕ → List ℕ
after_hop name =
    if starts_with nat_eq name (codes "near ") then drop 5 name
    else (if starts_with nat_eq name (codes "far ") then drop 4 name
    else name)

-- the name of the rule in the words of a Loose or a Fail, of a connection or of one of two hops; else nothing
abbrev pub why_of : List ℕ → List ℕ
why_of words =
    if starts_with nat_eq words (codes "FAIL ") then after_hop (drop 5 words)
    else (if starts_with nat_eq words (codes "LOOSE ") then after_hop (drop 6 words)
    else [])
