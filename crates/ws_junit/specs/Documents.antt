-- The JUnit document of runs: a test suite for each peer.
use Rattle.std.specs.Prelude.{ℕ, ◌+◌, Bool, ◌&&◌, not, List, [], ◌∷◌, ◌++◌, codes, flat_map, length, string_bytes}
use Rattle.std.specs.Prelude.{String, if◌then◌else◌}
use Rattle.std.specs.Fmt.{decimal}
use Rattle.std.specs.List.{concat, count_by, list_any}
use Rattle.std.specs.Str.{bytes_eq, is_utf8}
use Rattle.std.specs.declared.alloc.Global.{Global}
use Rattle.ws_titles.specs.Titles.{title_of}
use Rattle.ws_reports.specs.Junit.{failed_case, full_name, noted_case, noted_text, passed_case, skipped_case}
use Rattle.ws_reports.specs.Verdicts.{tells_fail}
use Rattle.ws_runs.specs.Runs.{PeerValue, ResultValue, RunsValue}
use Rattle.ws_junit.specs.XmlTexts.{quoted_text}

-- the name of a case in a document: its ID, and behind a space its title, if it has one
abbrev pub name_with : List ℕ → List ℕ → List ℕ
name_with id [] = id
name_with id (byte ∷ title) = full_name id (byte ∷ title)

abbrev pub title_beside : List ℕ → List ℕ
title_beside id = if is_utf8 id then title_of id else []

abbrev pub case_name : List ℕ → List ℕ
case_name id = name_with id (title_beside id)

-- a case that failed
abbrev pub failed_element : ResultValue → List ℕ
failed_element cell = failed_case (case_name cell.id) cell.words cell.words cell.below

-- a case that neither failed nor passed
abbrev pub noted_element : ResultValue → List ℕ
noted_element cell = noted_case (case_name cell.id) (noted_text cell.words cell.below)

-- a case that was run: a failure, if its verdict is a Fail or there was no connection
abbrev pub cell_element : ResultValue → List ℕ
cell_element cell =
    if tells_fail cell.words then failed_element cell
    else (if bytes_eq cell.words (codes "PASS") then passed_case (case_name cell.id) else noted_element cell)

-- a case is among those that were run
abbrev pub has_cell : List ResultValue → List ℕ → Bool
has_cell cells id = list_any (λ (cell : ResultValue). bytes_eq cell.id id) cells

-- a run was cut off, and lacks this case
abbrev pub is_skipped : PeerValue → List ℕ → Bool
is_skipped peer id = peer.is_cut_off && not (has_cell peer.cells id)

-- a listed case: nothing, unless the run lacks it
abbrev pub skipped_element : PeerValue → String Global → List ℕ
skipped_element peer id =
    if is_skipped peer (string_bytes id) then skipped_case (case_name (string_bytes id)) (codes "not run") else []

-- how many listed cases a run lacks
abbrev pub count_skipped : PeerValue → List (String Global) → ℕ
count_skipped peer listed = count_by (λ id. is_skipped peer (string_bytes id)) listed

-- how many of these cases failed
abbrev pub count_failures : List ResultValue → ℕ
count_failures cells = count_by (λ (cell : ResultValue). tells_fail cell.words) cells

-- the test suite of a peer: how many cases it has, failed and lacks, the cases that it ran, and those that it lacks
abbrev pub suite_of : List (String Global) → PeerValue → List ℕ
suite_of listed peer = concat (codes "<testsuite name=\"wst " ∷ quoted_text peer.name ∷ codes "\" tests=\""
    ∷ decimal (length peer.cells + count_skipped peer listed) ∷ codes "\" failures=\""
    ∷ decimal (count_failures peer.cells) ∷ codes "\" skipped=\"" ∷ decimal (count_skipped peer listed)
    ∷ codes "\">\n" ∷ flat_map cell_element peer.cells ∷ flat_map (skipped_element peer) listed
    ∷ codes "</testsuite>\n" ∷ [])

-- the document of runs, where these cases are listed
abbrev pub junit_document : List (String Global) → RunsValue → List ℕ
junit_document listed runs = concat (codes "<?xml version=\"1.0\" encoding=\"UTF-8\"?>\n<testsuites>"
    ∷ flat_map (suite_of listed) runs.peers ∷ codes "</testsuites>\n" ∷ [])
