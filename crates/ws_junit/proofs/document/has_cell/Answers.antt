-- The cell that was found is that of the case.
use Rattle.std.proofs.Common.{rules, ◌≡◌, ◌<◌, true, get_or, length, sym}
use Rattle.std.specs.Str.{bytes_eq}
use Rattle.ws_junit.proofs.Found.{found_cell, no_cell}
use Rattle.ws_junit.proofs.document.has_cell.Goals as goal

pub returns-then-eq : goal.returns-then-eq
returns-then-eq c =
    let cells = c.args.cells.now in
    let i = c.loop-cell.cell-index in
    let id = c.args.id.now in
    let less : i < length cells = search rules in
    let same : bytes_eq (get_or cells i no_cell).id.now id ≡ true = search rules in
    sym (found_cell cells i id less same)
