-- Each peer and each case is there, once, and in each cell is the last result of both.
use Rattle.std.proofs.Common.{◌≡◌, ◌∙◌, ℕ, Bool, true, false, ◌||◌, ◌&&◌, List, [], ◌∷◌, ◌++◌, Option, None, Some, ap, sym}
use Rattle.std.proofs.Common.{refl, subst, if◌then◌else◌}
use Rattle.std.proofs.lemmas.Bool.{false≢true}
use Rattle.std.proofs.lemmas.List.Folds.{list_any-append}
use Rattle.std.proofs.lemmas.Option.{none-some}
use Rattle.std.proofs.lemmas.Slice.Eq.{bytes_eq-Decides}
use Rattle.std.specs.Str.{bytes_eq}
use Rattle.ws_runs.specs.Names.{IsEachOnce, is_among, with_name}
use Rattle.ws_runs.specs.RunLines.{RunLine}
use Rattle.ws_runs.specs.RunLines.RunLine.{Below, Note, Other, Peer, Total, Verdict}
use Rattle.ws_runs.specs.Runs.{PeerValue, ReadingValue, ResultValue, below_of, cell_of, first_reading, new_peer, peer_names}
use Rattle.ws_runs.specs.Runs.{peer_with_note, peer_with_result, peer_with_total, runs_of, with_line, with_lines}
use Rattle.ws_runs.specs.Runs.{with_peer, with_result, with_verdict}
use Rattle.ws_pages.specs.LastResults.{HasResult, cell_at, found_or, last_from, last_result}

-- ---- names

same_name : (name : List ℕ) → bytes_eq name name ≡ true
same_name name = (bytes_eq-Decides name name).1 refl

-- a name is another where the other is another
other_name : (one other : List ℕ) → bytes_eq one other ≡ false → bytes_eq other one ≡ false
other_name one other differs = cases (bytes_eq other one) refl
  where
    cases : (b : Bool) → bytes_eq other one ≡ b → bytes_eq other one ≡ false
    cases true same = absurd (false≢true (sym differs ∙ (bytes_eq-Decides one other).1
        (sym ((bytes_eq-Decides other one).0 same))))
    cases false same = same

among_both : (name : List ℕ) (names more : List (List ℕ))
    → is_among name (names ++ more) ≡ (is_among name names || is_among name more)
among_both name names more = list_any-append (λ other. bytes_eq other name) names more

neither : (a b : Bool) → (a || b) ≡ false → (a ≡ false) × (b ≡ false)
neither true b e = absurd (false≢true (sym e))
neither false b e = (refl, e)

once_after : (names : List (List ℕ)) (name : List ℕ) → is_among name names ≡ false → IsEachOnce names
    → IsEachOnce (names ++ name ∷ [])
once_after [] name new once = (refl, tt)
once_after (first ∷ names) name new once =
    let apart = neither (bytes_eq first name) (is_among name names) new in (
      among_both first names (name ∷ []) ∙ ap (λ (b : Bool). b || (bytes_eq name first || false)) once.0
          ∙ ap (λ (b : Bool). b || false) (other_name first name apart.0),
      once_after names name apart.1 once.1,
    )

with_name_once : (names : List (List ℕ)) (name : List ℕ) → IsEachOnce names → IsEachOnce (with_name names name)
with_name_once names name once = put (is_among name names) refl
  where
    put : (b : Bool) → is_among name names ≡ b → IsEachOnce (if b then names else names ++ name ∷ [])
    put true there = once
    put false there = once_after names name there once

-- ---- a peer that is changed

-- a change that leaves the name
abbrev Named : (PeerValue → PeerValue) → Type 0
Named change = (peer : PeerValue) → (change peer).name ≡ peer.name

-- the names with a name, behind one that is another
behind_other : (first name : List ℕ) (names : List (List ℕ)) → bytes_eq first name ≡ false
    → first ∷ with_name names name ≡ with_name (first ∷ names) name
behind_other first name names differs =
    both (is_among name names)
    ∙ sym (ap (λ (b : Bool). if (b || is_among name names) then first ∷ names else first ∷ (names ++ name ∷ [])) differs)
  where
    both : (b : Bool) → first ∷ (if b then names else names ++ name ∷ [])
        ≡ (if (false || b) then first ∷ names else first ∷ (names ++ name ∷ []))
    both true = refl
    both false = refl

changed_names : (name : List ℕ) (change : PeerValue → PeerValue) → Named change → (peers : List PeerValue)
    → peer_names (with_peer name change peers) ≡ with_name (peer_names peers) name
changed_names name change named [] = ap (λ (n : List ℕ). n ∷ []) (named (new_peer name))
changed_names name change named (peer ∷ peers) =
    cases (bytes_eq peer.name name) refl (changed_names name change named peers)
  where
    cases : (b : Bool) → bytes_eq peer.name name ≡ b
        → peer_names (with_peer name change peers) ≡ with_name (peer_names peers) name
        → peer_names (if b then change peer ∷ peers else peer ∷ with_peer name change peers)
        ≡ with_name (peer.name ∷ peer_names peers) name
    cases true is rest = ap (λ (n : List ℕ). n ∷ peer_names peers) (named peer)
        ∙ sym (ap (λ (b : Bool). if (b || is_among name (peer_names peers)) then peer.name ∷ peer_names peers
        else peer.name ∷ (peer_names peers ++ name ∷ [])) is)
    cases false is rest = ap (λ (l : List (List ℕ)). peer.name ∷ l) rest
        ∙ behind_other peer.name name (peer_names peers) is

-- ---- the cell of a peer that is changed

-- a change that leaves the results
abbrev Keeps : (PeerValue → PeerValue) → Type 0
Keeps change = (peer : PeerValue) → (change peer).cells ≡ peer.cells

-- the cell of the first peer, or of another
first_cell : (one other : PeerValue) (rest : Option ResultValue) (name id : List ℕ) → one.name ≡ other.name
    → one.cells ≡ other.cells
    → (if bytes_eq one.name name then cell_of one.cells id else rest)
    ≡ (if bytes_eq other.name name then cell_of other.cells id else rest)
first_cell one other rest name id named same =
    ap (λ (n : List ℕ). if bytes_eq n name then cell_of one.cells id else rest) named
    ∙ ap (λ (l : List ResultValue). if bytes_eq other.name name then cell_of l id else rest) same

-- none of either
abbrev nothing : Option ResultValue
nothing = None

no_cell : (b : Bool) → (if b then nothing else nothing) ≡ nothing
no_cell true = refl
no_cell false = refl

kept_cell : (change : PeerValue → PeerValue) → Named change → Keeps change → (peers : List PeerValue)
    (of name id : List ℕ) → cell_at (with_peer of change peers) name id ≡ cell_at peers name id
kept_cell change named keeps [] of name id =
    first_cell (change (new_peer of)) (new_peer of) None name id (named (new_peer of)) (keeps (new_peer of))
    ∙ no_cell (bytes_eq of name)
kept_cell change named keeps (peer ∷ peers) of name id =
    cases (bytes_eq peer.name of) (kept_cell change named keeps peers of name id)
  where
    cases : (b : Bool) → cell_at (with_peer of change peers) name id ≡ cell_at peers name id
        → cell_at (if b then change peer ∷ peers else peer ∷ with_peer of change peers) name id
        ≡ cell_at (peer ∷ peers) name id
    cases true rest = first_cell (change peer) peer (cell_at peers name id) name id (named peer) (keeps peer)
    cases false rest =
        ap (λ (o : Option ResultValue). if bytes_eq peer.name name then cell_of peer.cells id else o) rest

-- ---- a result

-- a name that is another than two equal ones
not_either : (one same other : List ℕ) → one ≡ same → bytes_eq same other ≡ false → bytes_eq one other ≡ false
not_either one same other e differs = ap (λ (n : List ℕ). bytes_eq n other) e ∙ differs

-- two names that are both this one are equal
are_one : (one other id : List ℕ) → bytes_eq one id ≡ true → bytes_eq other id ≡ true → bytes_eq one other ≡ true
are_one one other id first second =
    (bytes_eq-Decides one other).1 ((bytes_eq-Decides one id).0 first ∙ sym ((bytes_eq-Decides other id).0 second))

put_cell : (cells : List ResultValue) (result : ResultValue) (id : List ℕ)
    → cell_of (with_result cells result) id ≡ found_or (bytes_eq result.id id) result (cell_of cells id)
put_cell [] result id = one (bytes_eq result.id id)
  where
    one : (b : Bool) → (if b then Some result else None) ≡ (if b then Some result else None)
    one b = refl
put_cell (cell ∷ cells) result id = cases (bytes_eq cell.id result.id) refl (put_cell cells result id)
  where
    here : (b : Bool) → bytes_eq result.id id ≡ b → cell.id ≡ result.id
        → (if b then Some result else cell_of cells id)
        ≡ (if b then Some result else (if bytes_eq cell.id id then Some cell else cell_of cells id))
    here true is same = refl
    here false is same =
        sym (ap (λ (b : Bool). if b then Some cell else cell_of cells id) (not_either cell.id result.id id same is))

    later : (a b : Bool) → bytes_eq cell.id id ≡ a → bytes_eq result.id id ≡ b → bytes_eq cell.id result.id ≡ false
        → (if a then Some cell else (if b then Some result else cell_of cells id))
        ≡ (if b then Some result else (if a then Some cell else cell_of cells id))
    later true true one other differs =
        absurd (false≢true (sym differs ∙ are_one cell.id result.id id one other))
    later true false one other differs = refl
    later false true one other differs = refl
    later false false one other differs = refl

    cases : (b : Bool) → bytes_eq cell.id result.id ≡ b
        → cell_of (with_result cells result) id ≡ found_or (bytes_eq result.id id) result (cell_of cells id)
        → cell_of (if b then result ∷ cells else cell ∷ with_result cells result) id
        ≡ found_or (bytes_eq result.id id) result (cell_of (cell ∷ cells) id)
    cases true same rest =
        here (bytes_eq result.id id) refl ((bytes_eq-Decides cell.id result.id).0 same)
    cases false differs rest =
        ap (λ (o : Option ResultValue). if bytes_eq cell.id id then Some cell else o) rest
        ∙ later (bytes_eq cell.id id) (bytes_eq result.id id) refl refl differs

-- the result of one peer, in the cell of any
put_result : (peers : List PeerValue) (of : List ℕ) (result : ResultValue) (name id : List ℕ)
    → cell_at (with_peer of (peer_with_result result) peers) name id
    ≡ found_or (bytes_eq of name && bytes_eq result.id id) result (cell_at peers name id)
put_result [] of result name id = cases (bytes_eq of name) (bytes_eq result.id id)
  where
    cases : (a b : Bool) → (if a then (if b then Some result else None) else None)
        ≡ (if (a && b) then Some result else None)
    cases true b = refl
    cases false b = refl
put_result (peer ∷ peers) of result name id =
    cases (bytes_eq peer.name of) refl (put_result peers of result name id)
  where
    here : (a : Bool) → bytes_eq peer.name name ≡ a → bytes_eq of name ≡ a
        → (if a then found_or (bytes_eq result.id id) result (cell_of peer.cells id) else cell_at peers name id)
        ≡ found_or (bytes_eq of name && bytes_eq result.id id) result
        (if a then cell_of peer.cells id else cell_at peers name id)
    here true is same = sym (ap (λ (b : Bool). found_or (b && bytes_eq result.id id) result (cell_of peer.cells id)) same)
    here false is same = sym (ap (λ (b : Bool). found_or (b && bytes_eq result.id id) result (cell_at peers name id)) same)

    later : (a b : Bool) → bytes_eq peer.name name ≡ a → bytes_eq of name ≡ b → bytes_eq peer.name of ≡ false
        → (if a then cell_of peer.cells id
        else found_or (b && bytes_eq result.id id) result (cell_at peers name id))
        ≡ found_or (b && bytes_eq result.id id) result
        (if a then cell_of peer.cells id else cell_at peers name id)
    later true true one other differs = absurd (false≢true (sym differs ∙ are_one peer.name of name one other))
    later true false one other differs = refl
    later false b one other differs = refl

    cases : (b : Bool) → bytes_eq peer.name of ≡ b
        → cell_at (with_peer of (peer_with_result result) peers) name id
        ≡ found_or (bytes_eq of name && bytes_eq result.id id) result (cell_at peers name id)
        → cell_at (if b then peer_with_result result peer ∷ peers
        else peer ∷ with_peer of (peer_with_result result) peers) name id
        ≡ found_or (bytes_eq of name && bytes_eq result.id id) result (cell_at (peer ∷ peers) name id)
    cases true same rest =
        ap (λ (o : Option ResultValue). if bytes_eq peer.name name then o else cell_at peers name id)
        (put_cell peer.cells result id)
        ∙ here (bytes_eq peer.name name) refl
        (ap (λ (n : List ℕ). bytes_eq n name) (sym ((bytes_eq-Decides peer.name of).0 same)))
    cases false differs rest =
        ap (λ (o : Option ResultValue). if bytes_eq peer.name name then cell_of peer.cells id else o)
        rest
        ∙ later (bytes_eq peer.name name) (bytes_eq of name) refl refl differs

-- ---- lines

cells_from : (reading : ReadingValue) (lines : List RunLine) (name id : List ℕ)
    → cell_at (with_lines reading lines).runs.peers name id
    ≡ last_from reading.name (cell_at reading.runs.peers name id) lines name id
cells_from reading [] name id = refl
cells_from reading (Peer new ∷ lines) name id =
    cells_from (with_line reading (Peer new) lines) lines name id
    ∙ ap (λ (o : Option ResultValue). last_from new o lines name id)
    (kept_cell (λ peer. peer) (λ peer. refl) (λ peer. refl) reading.runs.peers new name id)
cells_from reading (Note text ∷ lines) name id =
    cells_from (with_line reading (Note text) lines) lines name id
    ∙ ap (λ (o : Option ResultValue). last_from reading.name o lines name id)
    (kept_cell (peer_with_note text) (λ peer. refl) (λ peer. refl) reading.runs.peers reading.name name id)
cells_from reading (Verdict case words text ∷ lines) name id =
    cells_from (with_line reading (Verdict case words text) lines) lines name id
    ∙ ap (λ (o : Option ResultValue). last_from reading.name o lines name id)
    (put_result reading.runs.peers reading.name
    (record { id = case; words = words; line = text; below = below_of lines }) name id)
cells_from reading (Below text ∷ lines) name id = cells_from reading lines name id
cells_from reading (Total ∷ lines) name id =
    cells_from (with_line reading Total lines) lines name id
    ∙ ap (λ (o : Option ResultValue). last_from reading.name o lines name id)
    (kept_cell peer_with_total (λ peer. refl) (λ peer. refl) reading.runs.peers reading.name name id)
cells_from reading (Other ∷ lines) name id = cells_from reading lines name id

pub cells_are_last : (lines : List RunLine) (name id : List ℕ)
    → cell_at (runs_of lines).peers name id ≡ last_result lines name id
cells_are_last lines name id = cells_from first_reading lines name id

-- each peer and each case is there once
abbrev pub Once : ReadingValue → Type 0
Once reading = IsEachOnce (peer_names reading.runs.peers) × IsEachOnce reading.runs.ids

once_changed : (reading : ReadingValue) (of : List ℕ) (change : PeerValue → PeerValue) → Named change
    → IsEachOnce (peer_names reading.runs.peers) → IsEachOnce (peer_names (with_peer of change reading.runs.peers))
once_changed reading of change named once =
    subst IsEachOnce (sym (changed_names of change named reading.runs.peers))
    (with_name_once (peer_names reading.runs.peers) of once)

once_from : (reading : ReadingValue) (lines : List RunLine) → Once reading → Once (with_lines reading lines)
once_from reading [] once = once
once_from reading (Peer new ∷ lines) once =
    once_from (with_line reading (Peer new) lines) lines
    (once_changed reading new (λ peer. peer) (λ peer. refl) once.0, once.1)
once_from reading (Note text ∷ lines) once =
    once_from (with_line reading (Note text) lines) lines
    (once_changed reading reading.name (peer_with_note text) (λ peer. refl) once.0, once.1)
once_from reading (Verdict case words text ∷ lines) once =
    let result : ResultValue = record { id = case; words = words; line = text; below = below_of lines } in
    once_from (with_line reading (Verdict case words text) lines) lines (
      once_changed reading reading.name (peer_with_result result) (λ peer. refl) once.0,
      with_name_once reading.runs.ids case once.1,
    )
once_from reading (Below text ∷ lines) once = once_from reading lines once
once_from reading (Total ∷ lines) once =
    once_from (with_line reading Total lines) lines
    (once_changed reading reading.name peer_with_total (λ peer. refl) once.0, once.1)
once_from reading (Other ∷ lines) once = once_from reading lines once

pub all_once : (lines : List RunLine) → Once (with_lines first_reading lines)
all_once lines = once_from first_reading lines (tt, tt)

-- ---- columns and rows

-- what is in the cell of a peer and a case is of a peer that is there
column_of : (peers : List PeerValue) (name id : List ℕ) (result : ResultValue)
    → cell_at peers name id ≡ Some result → is_among name (peer_names peers) ≡ true
column_of [] name id result is = absurd (none-some result is)
column_of (peer ∷ peers) name id result is =
    cases (bytes_eq peer.name name) (column_of peers name id result) is
  where
    cases : (b : Bool) → (cell_at peers name id ≡ Some result → is_among name (peer_names peers) ≡ true)
        → (if b then cell_of peer.cells id else cell_at peers name id) ≡ Some result
        → (b || is_among name (peer_names peers)) ≡ true
    cases true rest is = refl
    cases false rest is = rest is

pub columns_are_there : (lines : List RunLine) (name id : List ℕ) → HasResult lines name id
    → is_among name (peer_names (runs_of lines).peers) ≡ true
columns_are_there lines name id (result, is) =
    column_of (runs_of lines).peers name id result (cells_are_last lines name id ∙ is)

-- a name that is there is there with one more
kept_among : (name other : List ℕ) (names : List (List ℕ)) → is_among name names ≡ true
    → is_among name (with_name names other) ≡ true
kept_among name other names there = put (is_among other names)
  where
    put : (b : Bool) → is_among name (if b then names else names ++ other ∷ []) ≡ true
    put true = there
    put false = among_both name names (other ∷ []) ∙ ap (λ (b : Bool). b || (bytes_eq other name || false)) there

put_among : (name : List ℕ) (names : List (List ℕ)) → is_among name (with_name names name) ≡ true
put_among name names = put (is_among name names) refl
  where
    put : (b : Bool) → is_among name names ≡ b → is_among name (if b then names else names ++ name ∷ []) ≡ true
    put true there = there
    put false new = among_both name names (name ∷ [])
        ∙ ap (λ (b : Bool). b || (bytes_eq name name || false)) new
        ∙ ap (λ (b : Bool). b || false) (same_name name)

-- what is in the cell of this peer and this case is of a case that is there
abbrev HasRow : ReadingValue → List ℕ → List ℕ → Type 0
HasRow reading name id = (result : ResultValue) → cell_at reading.runs.peers name id ≡ Some result
    → is_among id reading.runs.ids ≡ true

kept_row : (change : PeerValue → PeerValue) → Named change → Keeps change → (reading : ReadingValue)
    (of name id : List ℕ) → HasRow reading name id → (result : ResultValue)
    → cell_at (with_peer of change reading.runs.peers) name id ≡ Some result → is_among id reading.runs.ids ≡ true
kept_row change named keeps reading of name id has result is =
    has result (sym (kept_cell change named keeps reading.runs.peers of name id) ∙ is)

second : (a b : Bool) → (a && b) ≡ true → b ≡ true
second true b e = e
second false b e = absurd (false≢true e)

new_row : (reading : ReadingValue) (new : ResultValue) (name id : List ℕ) → HasRow reading name id
    → HasRow (with_verdict new reading) name id
new_row reading new name id has result is =
    cases (bytes_eq reading.name name && bytes_eq new.id id) refl
    (sym (put_result reading.runs.peers reading.name new name id) ∙ is)
  where
    cases : (b : Bool) → (bytes_eq reading.name name && bytes_eq new.id id) ≡ b
        → found_or b new (cell_at reading.runs.peers name id) ≡ Some result
        → is_among id (with_name reading.runs.ids new.id) ≡ true
    cases true same found = subst (λ (other : List ℕ). is_among other (with_name reading.runs.ids new.id) ≡ true)
        ((bytes_eq-Decides new.id id).0 (second (bytes_eq reading.name name) (bytes_eq new.id id) same))
        (put_among new.id reading.runs.ids)
    cases false other found = kept_among id new.id reading.runs.ids (has result found)

rows_from : (reading : ReadingValue) (lines : List RunLine) (name id : List ℕ) → HasRow reading name id
    → HasRow (with_lines reading lines) name id
rows_from reading [] name id has = has
rows_from reading (Peer new ∷ lines) name id has =
    rows_from (with_line reading (Peer new) lines) lines name id
    (kept_row (λ peer. peer) (λ peer. refl) (λ peer. refl) reading new name id has)
rows_from reading (Note text ∷ lines) name id has =
    rows_from (with_line reading (Note text) lines) lines name id
    (kept_row (peer_with_note text) (λ peer. refl) (λ peer. refl) reading reading.name name id has)
rows_from reading (Verdict case words text ∷ lines) name id has =
    rows_from (with_line reading (Verdict case words text) lines) lines name id
    (new_row reading (record { id = case; words = words; line = text; below = below_of lines }) name id has)
rows_from reading (Below text ∷ lines) name id has = rows_from reading lines name id has
rows_from reading (Total ∷ lines) name id has =
    rows_from (with_line reading Total lines) lines name id
    (kept_row peer_with_total (λ peer. refl) (λ peer. refl) reading reading.name name id has)
rows_from reading (Other ∷ lines) name id has = rows_from reading lines name id has

no_row : (name id : List ℕ) → HasRow first_reading name id
no_row name id result is = absurd (none-some result is)

pub rows_are_there : (lines : List RunLine) (name id : List ℕ) → HasResult lines name id
    → is_among id (runs_of lines).ids ≡ true
rows_are_there lines name id (result, is) =
    rows_from first_reading lines name id (no_row name id) result (cells_are_last lines name id ∙ is)
