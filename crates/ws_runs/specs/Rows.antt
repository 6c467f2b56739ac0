-- Which cases have a row beside others: in a table, and where it is told how many of them were run.
use Rattle.std.specs.Prelude.{ℕ, Bool, false, not, List, [], ◌∷◌, ◌++◌, filter, if◌then◌else◌}
use Rattle.std.specs.List.{list_all}
use Rattle.ws_runs.specs.Names.{is_among}
use Rattle.ws_runs.specs.Runs.{PeerValue, RunsValue}

-- there are peers, and the run of each was cut off
abbrev pub are_cut_off : List PeerValue → Bool
are_cut_off [] = false
are_cut_off (first ∷ others) = list_all (λ (peer : PeerValue). peer.is_cut_off) (first ∷ others)

-- the listed cases that are none of these
abbrev pub others_listed : List (List ℕ) → List (List ℕ) → List (List ℕ)
others_listed ids listed = filter (λ name. not (is_among name ids)) listed

-- the rows: the cases that have a result; after them the other listed ones, if no run was whole, since then no run
-- shows which cases were to be run
abbrev pub row_ids : RunsValue → List (List ℕ) → List (List ℕ)
row_ids runs listed = if are_cut_off runs.peers then runs.ids ++ others_listed runs.ids listed else runs.ids
