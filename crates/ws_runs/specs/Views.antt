-- Inside the crate: what the types of the code mean. A reader may skip it.
use Rattle.std.specs.Prelude.{◌≡◌, ℕ, Bool, List, [], ◌∷◌, ◌++◌, map, Option, Some, None, option_map}
use Rattle.std.specs.Borrow.{Bor}
use Rattle.ws_runs.specs.Names.{place_among}
use Rattle.ws_runs.specs.RunLines.{RunLine as Meaning}
use Rattle.ws_runs.specs.RunLines.RunLine.{Below, Note, Other, Peer, Total, Verdict}
use Rattle.ws_runs.specs.Runs.{PeerValue, ReadingValue, ResultValue, RunsValue, no_name, peer_names, runs_with_peer}
use Rattle.ws_runs.specs.Summary.{IdRunValue}
use Rattle.ws_runs.specs.declared.id_runs.IdRun.{IdRun}
use Rattle.ws_runs.specs.declared.line.CaseLine.{CaseLine}
use Rattle.ws_runs.specs.declared.line.RunLine.{RunLine}
use Rattle.ws_runs.specs.declared.line.RunLine.TheVariants as line
use Rattle.ws_runs.specs.declared.result.CaseResult.{CaseResult}

-- what a line means
abbrev pub line_value : RunLine → Meaning
line_value (line.Peer name) = Peer name.now
line_value (line.Note text) = Note text.now
line_value (line.Verdict case) = Verdict case.id.now case.words.now case.line.now
line_value (line.Below text) = Below text.now
line_value line.Total = Total
line_value line.Other = Other

-- a result
abbrev pub result_value : CaseResult → ResultValue
result_value result = record {
  id = result.id.now;
  words = result.words.now;
  line = result.line.now;
  below = result.below.now;
}

-- results
abbrev pub result_values : List CaseResult → List ResultValue
result_values results = map result_value results

-- a cell
abbrev pub cell_value : Option CaseResult → Option ResultValue
cell_value cell = option_map result_value cell

-- texts that are borrowed
abbrev pub texts_now : List (Bor (List ℕ)) → List (List ℕ)
texts_now texts = map (λ (text : Bor (List ℕ)). text.now) texts

-- a peer with the result of a case that it hadn't run
abbrev pub peer_with_new : ResultValue → PeerValue → PeerValue
peer_with_new result peer = record {
  name = peer.name;
  notes = peer.notes;
  is_cut_off = peer.is_cut_off;
  cells = peer.cells ++ result ∷ [];
}

-- runs with a peer that wasn't there
abbrev pub runs_with_new : PeerValue → RunsValue → RunsValue
runs_with_new peer runs = record { peers = runs.peers ++ peer ∷ []; ids = runs.ids }

-- The place of the peer of the next lines is known; or it is none yet, and these are the first lines.
abbrev pub IsPlaceOf : Option ℕ → List ℕ → List PeerValue → Type 0
IsPlaceOf None name peers = name ≡ no_name
IsPlaceOf (Some place) name peers = place_among name (peer_names peers) ≡ Some place

-- the result of a case with these lines below its line
abbrev pub case_value : CaseLine → List ℕ → ResultValue
case_value line below = record { id = line.id.now; words = line.words.now; line = line.line.now; below = below }

-- the peer of the next lines is in these runs at this place, and nothing else is new in them
abbrev pub HasPlace : ReadingValue → RunsValue → ℕ → Type 0
HasPlace reading runs place = (place_among reading.name (peer_names runs.peers) ≡ Some place)
    × ((change : PeerValue → PeerValue)
    → runs_with_peer reading.name change runs ≡ runs_with_peer reading.name change reading.runs)

-- cases that follow one another
abbrev pub run_value : IdRun → IdRunValue
run_value run = record { first = run.first.now; last = run.last.now; between = run.between }

abbrev pub run_values : List IdRun → List IdRunValue
run_values runs = map run_value runs
