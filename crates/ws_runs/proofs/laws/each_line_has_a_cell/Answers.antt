-- Line by line.
use Rattle.ws_runs.proofs.CellLemmas.{case_counts, case_row, ids_once, others_stay, peers_once}
use Rattle.ws_runs.proofs.laws.each_line_has_a_cell.Goals as goal

pub returns : goal.returns
returns c = record {
  peers_once = peers_once;
  ids_once = ids_once;
  row = case_row;
  counts = case_counts;
  others = others_stay;
}
