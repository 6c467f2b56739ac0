-- None of the parts so far has a title for the name.
use Rattle.std.proofs.Common.{◌≡◌, drop}
use Rattle.ws_titles.specs.TitleTable.{title_parts}
use Rattle.ws_titles.specs.Titles.{title_in, title_of}
use Rattle.ws_titles.proofs.lookup.title_of.Given as goal

abbrev pub invariant-loop-part : goal.invariant-loop-part
invariant-loop-part l = title_in (drop l.part title_parts) l.id ≡ title_of l.id
