-- Line by line.
use Rattle.ws_pages.proofs.CellLaws.{all_once, cells_are_last, columns_are_there, rows_are_there}
use Rattle.ws_pages.proofs.laws.each_result_has_a_cell.Goals as goal

pub returns-clause-column : goal.returns-clause-column
returns-clause-column c = columns_are_there

pub returns-clause-row : goal.returns-clause-row
returns-clause-row c = rows_are_there

pub returns-clause-peers_once : goal.returns-clause-peers_once
returns-clause-peers_once c = λ lines. (all_once lines).0

pub returns-clause-ids_once : goal.returns-clause-ids_once
returns-clause-ids_once c = λ lines. (all_once lines).1

pub returns-clause-cell : goal.returns-clause-cell
returns-clause-cell c = cells_are_last
