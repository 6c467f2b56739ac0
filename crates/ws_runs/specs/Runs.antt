-- What the lines of runs say: of each peer the cases that it ran, each with what counts of it, its last line.
use Rattle.std.specs.Prelude.{◌≡◌, ℕ, Bool, true, false, List, [], ◌∷◌, ◌++◌, Option, Some, None, codes, find, map}
use Rattle.std.specs.Str.{bytes_eq}
use Rattle.ws_runs.specs.Names.{put_where, with_name}
use Rattle.ws_runs.specs.RunLines.{RunLine}
use Rattle.ws_runs.specs.RunLines.RunLine.{Below, Note, Other, Peer, Total, Verdict}

-- what counts of a case: its name, the words of the verdict, the whole line, and the lines below, each with its LF
pub record ResultValue : Type 0 where
  pub id : List ℕ
  pub words : List ℕ
  pub line : List ℕ
  pub below : List ℕ

-- a tested peer: its name, what else is said of it, whether its run was cut off, and what counts of the cases that it
-- ran, in the order in which they first appear
pub record PeerValue : Type 0 where
  pub name : List ℕ
  pub notes : List (List ℕ)
  pub is_cut_off : Bool
  pub cells : List ResultValue

-- the peers, and the names of the cases that any of them ran, each in the order in which they first appear
pub record RunsValue : Type 0 where
  pub peers : List PeerValue
  pub ids : List (List ℕ)

-- what counts of a case, by its name
abbrev pub cell_of : List ResultValue → List ℕ → Option ResultValue
cell_of cells id = find (λ (cell : ResultValue). bytes_eq cell.id id) cells

-- the peer of a name, and what counts of a case in its run
abbrev pub peer_of : List PeerValue → List ℕ → Option PeerValue
peer_of peers name = find (λ (peer : PeerValue). bytes_eq peer.name name) peers

abbrev pub cell_beside : Option PeerValue → List ℕ → Option ResultValue
cell_beside None id = None
cell_beside (Some peer) id = cell_of peer.cells id

abbrev pub cell_in : RunsValue → List ℕ → List ℕ → Option ResultValue
cell_in runs name id = cell_beside (peer_of runs.peers name) id

-- the names of cases
abbrev pub case_ids : List ResultValue → List (List ℕ)
case_ids results = map (λ (result : ResultValue). result.id) results

-- the names of peers
abbrev pub peer_names : List PeerValue → List (List ℕ)
peer_names peers = map (λ (peer : PeerValue). peer.name) peers

-- ---- one more line of a peer

-- a peer of which only the name is known: a run without a total was cut off
abbrev pub new_peer : List ℕ → PeerValue
new_peer name = record { name = name; notes = []; is_cut_off = true; cells = [] }

-- a result takes the place of an earlier one of its case
abbrev pub with_result : List ResultValue → ResultValue → List ResultValue
with_result cells result = put_where (λ (cell : ResultValue). bytes_eq cell.id result.id) (λ cell. result) result cells

-- a result is of a run that goes on
abbrev pub peer_with_result : ResultValue → PeerValue → PeerValue
peer_with_result result peer = record {
  name = peer.name;
  notes = peer.notes;
  is_cut_off = true;
  cells = with_result peer.cells result;
}

abbrev pub peer_with_note : List ℕ → PeerValue → PeerValue
peer_with_note text peer = record {
  name = peer.name;
  notes = peer.notes ++ text ∷ [];
  is_cut_off = peer.is_cut_off;
  cells = peer.cells;
}

-- a total ends a run
abbrev pub peer_with_total : PeerValue → PeerValue
peer_with_total peer = record { name = peer.name; notes = peer.notes; is_cut_off = false; cells = peer.cells }

-- the peer of this name changed so, a new one if there is none yet
abbrev pub with_peer : List ℕ → (PeerValue → PeerValue) → List PeerValue → List PeerValue
with_peer name change peers =
    put_where (λ (peer : PeerValue). bytes_eq peer.name name) change (change (new_peer name)) peers

-- ---- one more line of runs

abbrev pub no_runs : RunsValue
no_runs = record { peers = []; ids = [] }

abbrev pub runs_with_peer : List ℕ → (PeerValue → PeerValue) → RunsValue → RunsValue
runs_with_peer name change runs = record { peers = with_peer name change runs.peers; ids = runs.ids }

-- a case is there from now on
abbrev pub runs_with_id : List ℕ → RunsValue → RunsValue
runs_with_id id runs = record { peers = runs.peers; ids = with_name runs.ids id }

-- the name of a peer whose lines have no name in front of them
abbrev pub no_name : List ℕ
no_name = codes "-"

-- what was read so far, and the peer of the next lines
pub record ReadingValue : Type 0 where
  pub runs : RunsValue
  pub name : List ℕ

-- the lines below a case, each with its LF, if these lines follow its line
abbrev pub below_of : List RunLine → List ℕ
below_of [] = []
below_of (Below text ∷ lines) = text ++ 10 ∷ below_of lines
below_of (Peer name ∷ lines) = []
below_of (Note text ∷ lines) = []
below_of (Verdict id words text ∷ lines) = []
below_of (Total ∷ lines) = []
below_of (Other ∷ lines) = []

-- a change of the peer of the next lines
abbrev pub with_change : (PeerValue → PeerValue) → ReadingValue → ReadingValue
with_change change reading =
    record { runs = runs_with_peer reading.name change reading.runs; name = reading.name }

-- a result of that peer
abbrev pub with_verdict : ResultValue → ReadingValue → ReadingValue
with_verdict result reading = record {
  runs = runs_with_id result.id (runs_with_peer reading.name (peer_with_result result) reading.runs);
  name = reading.name;
}

-- a name: its peer is there from now on, and the next lines are of it
abbrev pub with_new_name : List ℕ → ReadingValue → ReadingValue
with_new_name name reading = record { runs = runs_with_peer name (λ peer. peer) reading.runs; name = name }

-- what was read with one more line, if these lines follow it
abbrev pub with_line : ReadingValue → RunLine → List RunLine → ReadingValue
with_line reading (Peer name) after = with_new_name name reading
with_line reading (Note text) after = with_change (peer_with_note text) reading
with_line reading (Verdict id words text) after =
    with_verdict (record { id = id; words = words; line = text; below = below_of after }) reading
with_line reading (Below text) after = reading
with_line reading Total after = with_change peer_with_total reading
with_line reading Other after = reading

-- and with these lines more
abbrev pub with_lines : ReadingValue → List RunLine → ReadingValue
with_lines reading [] = reading
with_lines reading (line ∷ lines) = with_lines (with_line reading line lines) lines

-- the first lines are of the peer without a name
abbrev pub first_reading : ReadingValue
first_reading = record { runs = no_runs; name = no_name }

abbrev pub read_so : List RunLine → ReadingValue
read_so lines = with_lines first_reading lines

-- what the lines say
abbrev pub runs_of : List RunLine → RunsValue
runs_of lines = (read_so lines).runs
