-- The first part that has a title for the name decides.
use Rattle.std.proofs.Common.{rules, ◌≡◌, ◌∙◌, ◌==◌, ◌<◌, ℕ, List, [], ap, arith, false, true, get_or, length, refl}
use Rattle.ws_titles.specs.TitleTable.{title_parts}
use Rattle.ws_titles.specs.Titles.{title_among, title_of}
use Rattle.ws_titles.proofs.Searches.{part_found, part_passed}
use Rattle.ws_titles.proofs.lookup.title_of.Goals as goal

pub loop-part-init : goal.loop-part-init
unfolding title_of
loop-part-init c = refl

pub returns-then-not-is_empty : goal.returns-then-not-is_empty
returns-then-not-is_empty c =
    let id = c.args.id.now in
    let title = c.title_among-title.result.now in
    let is : title ≡ title_among (get_or title_parts c.loop-part.part []) id =
    c.title_among-title.ensures ∙ ap (λ (l : List (List ℕ × List ℕ)). title_among l id) c.titles.ensures in
    let some : (length title == 0) ≡ false = search rules in
    part_found title_parts c.loop-part.part id title (title_of id) (omega (arith, c.loop-part-test.true)) is some
    c.loop-part.invariant

pub loop-part-preserved : goal.loop-part-preserved
loop-part-preserved c =
    let id = c.args.id.now in
    let title = c.title_among-title.result.now in
    let is : title ≡ title_among (get_or title_parts c.loop-part.part []) id =
    c.title_among-title.ensures ∙ ap (λ (l : List (List ℕ × List ℕ)). title_among l id) c.titles.ensures in
    let none : (length title == 0) ≡ true = search rules in
    part_passed title_parts c.loop-part.part id title (title_of id) (omega (arith, c.loop-part-test.true)) is none
    c.loop-part.invariant
