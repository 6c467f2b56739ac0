-- None of the rows so far stands beside the name.
use Rattle.std.proofs.Common.{◌≡◌, drop, map}
use Rattle.ws_titles.specs.Titles.{title_among, title_pair}
use Rattle.ws_titles.proofs.lookup.title_among.Given as goal

abbrev pub invariant-loop-title : goal.invariant-loop-title
invariant-loop-title l =
    title_among (map title_pair (drop l.title-index l.titles)) l.id ≡ title_among (map title_pair l.titles) l.id
