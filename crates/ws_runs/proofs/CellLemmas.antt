-- Each peer and each case is there once, and a line of a case counts for both.
use Rattle.std.proofs.Common.{◌≡◌, ◌∙◌, ℕ, Bool, true, false, ◌||◌, ◌⊎◌, inl, inr, cond, find, List, [], ◌∷◌, ◌++◌, Option, Some, None}
use Rattle.std.proofs.Common.{ap, sym, refl, subst, if◌then◌else◌}
use Rattle.std.proofs.lemmas.Bool.{false≢true}
use Rattle.std.proofs.lemmas.List.Folds.{list_any-append}
use Rattle.std.proofs.lemmas.Slice.Eq.{bytes_eq-Decides}
use Rattle.std.specs.Str.{bytes_eq}
use Rattle.ws_runs.specs.Names.{IsEachOnce, is_among, put_where, with_name}
use Rattle.ws_runs.specs.RunLines.{RunLine}
use Rattle.ws_runs.specs.RunLines.RunLine.{Below, Note, Other, Peer, Total, Verdict}
use Rattle.ws_runs.specs.Runs.{PeerValue, ReadingValue, ResultValue, RunsValue, below_of, cell_beside, cell_in, cell_of}
use Rattle.ws_runs.specs.Runs.{first_reading, new_peer, peer_names, peer_of, peer_with_note, peer_with_result}
use Rattle.ws_runs.specs.Runs.{peer_with_total, runs_of, runs_with_peer, with_line, with_lines, with_peer, with_result}
use Rattle.ws_runs.specs.Runs.{with_verdict}

-- ---- names

same_name : (name : List ℕ) → bytes_eq name name ≡ true
same_name name = (bytes_eq-Decides name name).1 refl

other_name : (one other : List ℕ) → bytes_eq one other ≡ false → bytes_eq other one ≡ false
other_name one other differs = case (bytes_eq other one) refl
  where
    case : (b : Bool) → bytes_eq other one ≡ b → bytes_eq other one ≡ false
    case true same = absurd (false≢true (sym differs ∙ (bytes_eq-Decides one other).1
        (sym ((bytes_eq-Decides other one).0 same))))
    case false same = same

among_both : (name : List ℕ) (names more : List (List ℕ))
    → is_among name (names ++ more) ≡ (is_among name names || is_among name more)
among_both name names more = list_any-append (λ other. bytes_eq other name) names more

put_name : (names : List (List ℕ)) (name : List ℕ) → is_among name (with_name names name) ≡ true
put_name names name = put (is_among name names) refl
  where
    put : (b : Bool) → is_among name names ≡ b → is_among name (if b then names else names ++ name ∷ []) ≡ true
    put true there = there
    put false there = among_both name names (name ∷ [])
        ∙ ap (λ (b : Bool). b || (bytes_eq name name || false)) there ∙ ap (λ (b : Bool). b || false) (same_name name)

neither : (a b : Bool) → (a || b) ≡ false → (a ≡ false) × (b ≡ false)
neither true b e = absurd (false≢true (sym e))
neither false b e = (refl, e)

once_after : (names : List (List ℕ)) (name : List ℕ) → is_among name names ≡ false → IsEachOnce names
    → IsEachOnce (names ++ name ∷ [])
once_after [] name new once = (refl, tt)
once_after (first ∷ names) name new once =
    let apart = neither (bytes_eq first name) (is_among name names) new in (
      among_both first names (name ∷ []) ∙ ap (λ (b : Bool). b || (bytes_eq name first || false)) once.0
          ∙ ap (λ (b : Bool). b || false) (other_name first name apart.0),
      once_after names name apart.1 once.1,
    )

with_name_once : (names : List (List ℕ)) (name : List ℕ) → IsEachOnce names → IsEachOnce (with_name names name)
with_name_once names name once = put (is_among name names) refl
  where
    put : (b : Bool) → is_among name names ≡ b → IsEachOnce (if b then names else names ++ name ∷ [])
    put true there = once
    put false there = once_after names name there once

-- ---- what is put where

-- the names after one was put
names_put : (name : List ℕ) (change : PeerValue → PeerValue) (new : PeerValue)
    → ((peer : PeerValue) → (change peer).name ≡ peer.name) → new.name ≡ name → (peers : List PeerValue)
    → peer_names (put_where (λ (peer : PeerValue). bytes_eq peer.name name) change new peers)
    ≡ with_name (peer_names peers) name
names_put name change new keeps named [] = ap (λ (n : List ℕ). n ∷ []) named
names_put name change new keeps named (peer ∷ peers) =
    pick (bytes_eq peer.name name) refl (names_put name change new keeps named peers)
  where
    others : List (List ℕ)
    others = peer_names peers

    later_names : (b : Bool) → peer.name ∷ (if b then others else others ++ name ∷ [])
        ≡ (if b then peer.name ∷ others else (peer.name ∷ others) ++ name ∷ [])
    later_names true = refl
    later_names false = refl

    pick : (b : Bool) → bytes_eq peer.name name ≡ b
        → peer_names (put_where (λ (peer : PeerValue). bytes_eq peer.name name) change new peers)
        ≡ with_name others name
        → peer_names (if b then change peer ∷ peers
        else peer ∷ put_where (λ (peer : PeerValue). bytes_eq peer.name name) change new peers)
        ≡ with_name (peer.name ∷ others) name
    pick true is later =
        ap (λ (n : List ℕ). n ∷ others) (keeps peer)
        ∙ sym (ap (λ (b : Bool). if b || is_among name others then peer.name ∷ others
        else (peer.name ∷ others) ++ name ∷ []) is)
    pick false is later =
        ap (λ (l : List (List ℕ)). peer.name ∷ l) later ∙ later_names (is_among name others)
        ∙ sym (ap (λ (b : Bool). if b || is_among name others then peer.name ∷ others
        else (peer.name ∷ others) ++ name ∷ []) is)

-- the peer that was put is found, changed
peer_found : (name : List ℕ) (change : PeerValue → PeerValue)
    → ((peer : PeerValue) → (change peer).name ≡ peer.name) → (peers : List PeerValue)
    → (old : PeerValue) × (peer_of (with_peer name change peers) name ≡ Some (change old))
peer_found name change keeps [] = (
  new_peer name,
  ap (λ (b : Bool). cond b (Some (change (new_peer name))) None)
      (ap (λ (n : List ℕ). bytes_eq n name) (keeps (new_peer name)) ∙ same_name name),
)
peer_found name change keeps (peer ∷ peers) =
    pick (bytes_eq peer.name name) refl (peer_found name change keeps peers)
  where
    pick : (b : Bool) → bytes_eq peer.name name ≡ b
        → (old : PeerValue) × (peer_of (with_peer name change peers) name ≡ Some (change old))
        → (old : PeerValue) × (peer_of (if b then change peer ∷ peers else peer ∷ with_peer name change peers) name
        ≡ Some (change old))
    pick true is later = (
      peer,
      ap (λ (b : Bool). cond b (Some (change peer)) (peer_of peers name))
          (ap (λ (n : List ℕ). bytes_eq n name) (keeps peer) ∙ is),
    )
    pick false is later =
        (later.0, ap (λ (b : Bool). cond b (Some peer) (peer_of (with_peer name change peers) name)) is ∙ later.1)

-- another peer is found as before
peer_stays : (name other : List ℕ) (change : PeerValue → PeerValue)
    → ((peer : PeerValue) → (change peer).name ≡ peer.name) → bytes_eq name other ≡ false → (peers : List PeerValue)
    → peer_of (with_peer name change peers) other ≡ peer_of peers other
peer_stays name other change keeps differs [] =
    ap (λ (b : Bool). cond b (Some (change (new_peer name))) None)
    (ap (λ (n : List ℕ). bytes_eq n other) (keeps (new_peer name)) ∙ differs)
peer_stays name other change keeps differs (peer ∷ peers) =
    pick (bytes_eq peer.name name) refl (peer_stays name other change keeps differs peers)
  where
    pick : (b : Bool) → bytes_eq peer.name name ≡ b
        → peer_of (with_peer name change peers) other ≡ peer_of peers other
        → peer_of (if b then change peer ∷ peers else peer ∷ with_peer name change peers) other
        ≡ peer_of (peer ∷ peers) other
    pick true is later =
        let apart : bytes_eq peer.name other ≡ false =
        ap (λ (n : List ℕ). bytes_eq n other) ((bytes_eq-Decides peer.name name).0 is) ∙ differs in
        ap (λ (b : Bool). cond b (Some (change peer)) (peer_of peers other))
        (ap (λ (n : List ℕ). bytes_eq n other) (keeps peer) ∙ apart)
        ∙ sym (ap (λ (b : Bool). cond b (Some peer) (peer_of peers other)) apart)
    pick false is later = ap (λ (o : Option PeerValue). cond (bytes_eq peer.name other) (Some peer) o) later

-- so with results
result_found : (result : ResultValue) (cells : List ResultValue)
    → cell_of (with_result cells result) result.id ≡ Some result
result_found result [] = ap (λ (b : Bool). cond b (Some result) None) (same_name result.id)
result_found result (cell ∷ cells) = pick (bytes_eq cell.id result.id) refl (result_found result cells)
  where
    pick : (b : Bool) → bytes_eq cell.id result.id ≡ b
        → cell_of (with_result cells result) result.id ≡ Some result
        → cell_of (if b then result ∷ cells else cell ∷ with_result cells result) result.id ≡ Some result
    pick true is later = ap (λ (b : Bool). cond b (Some result) (cell_of cells result.id)) (same_name result.id)
    pick false is later = ap (λ (b : Bool). cond b (Some cell) (cell_of (with_result cells result) result.id)) is ∙ later

result_stays : (result : ResultValue) (id : List ℕ) → bytes_eq result.id id ≡ false → (cells : List ResultValue)
    → cell_of (with_result cells result) id ≡ cell_of cells id
result_stays result id differs [] = ap (λ (b : Bool). cond b (Some result) None) differs
result_stays result id differs (cell ∷ cells) =
    pick (bytes_eq cell.id result.id) refl (result_stays result id differs cells)
  where
    pick : (b : Bool) → bytes_eq cell.id result.id ≡ b → cell_of (with_result cells result) id ≡ cell_of cells id
        → cell_of (if b then result ∷ cells else cell ∷ with_result cells result) id ≡ cell_of (cell ∷ cells) id
    pick true is later =
        let apart : bytes_eq cell.id id ≡ false =
        ap (λ (n : List ℕ). bytes_eq n id) ((bytes_eq-Decides cell.id result.id).0 is) ∙ differs in
        ap (λ (b : Bool). cond b (Some result) (cell_of cells id)) differs
        ∙ sym (ap (λ (b : Bool). cond b (Some cell) (cell_of cells id)) apart)
    pick false is later = ap (λ (o : Option ResultValue). cond (bytes_eq cell.id id) (Some cell) o) later

-- ---- the line of a case

pub case_row : (result : ResultValue) (reading : ReadingValue)
    → is_among result.id (with_verdict result reading).runs.ids ≡ true
case_row result reading = put_name reading.runs.ids result.id

pub case_counts : (result : ResultValue) (reading : ReadingValue)
    → cell_in (with_verdict result reading).runs reading.name result.id ≡ Some result
case_counts result reading =
    let found = peer_found reading.name (peer_with_result result) (λ peer. refl) reading.runs.peers in
    ap (λ (o : Option PeerValue). cell_beside o result.id) found.1 ∙ result_found result found.0.cells

-- the cell of this peer and another case
beside_stays : (result : ResultValue) (name id : List ℕ) → bytes_eq result.id id ≡ false → (peers : List PeerValue)
    → cell_beside (peer_of (with_peer name (peer_with_result result) peers) name) id
    ≡ cell_beside (peer_of peers name) id
beside_stays result name id differs [] =
    ap (λ (o : Option PeerValue). cell_beside o id)
    (ap (λ (b : Bool). cond b (Some (peer_with_result result (new_peer name))) None) (same_name name))
    ∙ result_stays result id differs []
beside_stays result name id differs (peer ∷ peers) =
    pick (bytes_eq peer.name name) refl (beside_stays result name id differs peers)
  where
    pick : (b : Bool) → bytes_eq peer.name name ≡ b
        → cell_beside (peer_of (with_peer name (peer_with_result result) peers) name) id
        ≡ cell_beside (peer_of peers name) id
        → cell_beside (peer_of (if b then peer_with_result result peer ∷ peers
        else peer ∷ with_peer name (peer_with_result result) peers) name) id
        ≡ cell_beside (peer_of (peer ∷ peers) name) id
    pick true is later =
        ap (λ (b : Bool). cell_beside (cond b (Some (peer_with_result result peer)) (peer_of peers name)) id) is
        ∙ result_stays result id differs peer.cells
        ∙ sym (ap (λ (b : Bool). cell_beside (cond b (Some peer) (peer_of peers name)) id) is)
    pick false is later =
        ap (λ (b : Bool). cell_beside (cond b (Some peer)
        (peer_of (with_peer name (peer_with_result result) peers) name)) id) is
        ∙ later ∙ sym (ap (λ (b : Bool). cell_beside (cond b (Some peer) (peer_of peers name)) id) is)

pub others_stay : (result : ResultValue) (reading : ReadingValue) (name id : List ℕ)
    → (bytes_eq reading.name name ≡ false) ⊎ (bytes_eq result.id id ≡ false)
    → cell_in (with_verdict result reading).runs name id ≡ cell_in reading.runs name id
others_stay result reading name id (inl differs) =
    ap (λ (o : Option PeerValue). cell_beside o id)
    (peer_stays reading.name name (peer_with_result result) (λ peer. refl) differs reading.runs.peers)
others_stay result reading name id (inr differs) = pick (bytes_eq reading.name name) refl
  where
    pick : (b : Bool) → bytes_eq reading.name name ≡ b
        → cell_in (with_verdict result reading).runs name id ≡ cell_in reading.runs name id
    pick true is =
        let same : name ≡ reading.name = sym ((bytes_eq-Decides reading.name name).0 is) in
        ap (λ (n : List ℕ). cell_beside (peer_of (with_verdict result reading).runs.peers n) id) same
        ∙ beside_stays result reading.name id differs reading.runs.peers
        ∙ sym (ap (λ (n : List ℕ). cell_beside (peer_of reading.runs.peers n) id) same)
    pick false is = ap (λ (o : Option PeerValue). cell_beside o id)
        (peer_stays reading.name name (peer_with_result result) (λ peer. refl) is reading.runs.peers)

-- ---- all lines

-- each peer and each case is there once
abbrev HasNamesOnce : ReadingValue → Type 0
HasNamesOnce reading = IsEachOnce (peer_names reading.runs.peers) × IsEachOnce reading.runs.ids

once_changed : (name : List ℕ) (change : PeerValue → PeerValue)
    → ((peer : PeerValue) → (change peer).name ≡ peer.name) → (peers : List PeerValue)
    → IsEachOnce (peer_names peers) → IsEachOnce (peer_names (with_peer name change peers))
once_changed name change keeps peers once =
    subst IsEachOnce (sym (names_put name change (change (new_peer name)) keeps (keeps (new_peer name)) peers))
    (with_name_once (peer_names peers) name once)

line_once : (reading : ReadingValue) (line : RunLine) (lines : List RunLine) → HasNamesOnce reading
    → HasNamesOnce (with_line reading line lines)
line_once reading (Peer name) lines once =
    (once_changed name (λ peer. peer) (λ peer. refl) reading.runs.peers once.0, once.1)
line_once reading (Note text) lines once =
    (once_changed reading.name (peer_with_note text) (λ peer. refl) reading.runs.peers once.0, once.1)
line_once reading (Verdict id words text) lines once = (
  once_changed reading.name
      (peer_with_result (record { id = id; words = words; line = text; below = below_of lines })) (λ peer. refl)
      reading.runs.peers once.0,
  with_name_once reading.runs.ids id once.1,
)
line_once reading (Below text) lines once = once
line_once reading Total lines once =
    (once_changed reading.name peer_with_total (λ peer. refl) reading.runs.peers once.0, once.1)
line_once reading Other lines once = once

lines_once : (reading : ReadingValue) (lines : List RunLine) → HasNamesOnce reading
    → HasNamesOnce (with_lines reading lines)
lines_once reading [] once = once
lines_once reading (line ∷ lines) once =
    lines_once (with_line reading line lines) lines (line_once reading line lines once)

pub peers_once : (lines : List RunLine) → IsEachOnce (peer_names (runs_of lines).peers)
peers_once lines = (lines_once first_reading lines (tt, tt)).0

pub ids_once : (lines : List RunLine) → IsEachOnce (runs_of lines).ids
ids_once lines = (lines_once first_reading lines (tt, tt)).1
