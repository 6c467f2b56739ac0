-- Which line is in which cell, said of the lines.
use Rattle.std.specs.Prelude.{◌≡◌, ℕ, Bool, ◌&&◌, List, [], ◌∷◌, Option, Some, None, if◌then◌else◌}
use Rattle.std.specs.Str.{bytes_eq}
use Rattle.ws_runs.specs.RunLines.{RunLine}
use Rattle.ws_runs.specs.RunLines.RunLine.{Below, Note, Other, Peer, Total, Verdict}
use Rattle.ws_runs.specs.Runs.{PeerValue, ResultValue, below_of, cell_of, no_name}

-- what is in the cell of a peer and a case, by their names
abbrev pub cell_at : List PeerValue → List ℕ → List ℕ → Option ResultValue
cell_at [] name id = None
cell_at (peer ∷ peers) name id = if bytes_eq peer.name name then cell_of peer.cells id else cell_at peers name id

-- a result, if it is the one that is asked for; else what was found before
abbrev pub found_or : Bool → ResultValue → Option ResultValue → Option ResultValue
found_or is result found = if is then Some result else found

-- the last result of a peer and a case in these lines, if the first are of the peer `at`; what was found before, if
-- there is none
abbrev pub last_from : List ℕ → Option ResultValue → List RunLine → List ℕ → List ℕ → Option ResultValue
last_from at found [] name id = found
last_from at found (Peer new ∷ lines) name id = last_from new found lines name id
last_from at found (Note text ∷ lines) name id = last_from at found lines name id
last_from at found (Verdict case words text ∷ lines) name id =
    last_from at (found_or (bytes_eq at name && bytes_eq case id)
    (record { id = case; words = words; line = text; below = below_of lines }) found) lines name id
last_from at found (Below text ∷ lines) name id = last_from at found lines name id
last_from at found (Total ∷ lines) name id = last_from at found lines name id
last_from at found (Other ∷ lines) name id = last_from at found lines name id

-- the last result of a peer and a case; the first lines are of the peer without a name
abbrev pub last_result : List RunLine → List ℕ → List ℕ → Option ResultValue
last_result lines name id = last_from no_name None lines name id

-- the lines have a result of this peer and this case
abbrev pub HasResult : List RunLine → List ℕ → List ℕ → Type 0
HasResult lines name id = (result : ResultValue) × (last_result lines name id ≡ Some result)
