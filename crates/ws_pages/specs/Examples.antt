-- Worked examples, each a theorem.
use Rattle.std.specs.Prelude.{◌≡◌, ⊤, ℕ, List, [], ◌∷◌, Bool, None, Some, codes, false, refl, true}
use Rattle.std.specs.Char.{encode_utf8}
use Rattle.std.specs.Str.{chars, is_utf8}
use Rattle.ws_runs.specs.Rows.{row_ids}
use Rattle.ws_runs.specs.RunLines.{RunLine}
use Rattle.ws_runs.specs.RunLines.RunLine.{Below, Note, Other, Peer, Total, Verdict}
use Rattle.ws_runs.specs.Runs.{PeerValue, ResultValue}
use Rattle.ws_runs.specs.declared.mark.Mark.TheVariants.{NoConnection}
use Rattle.ws_pages.specs.LastResults.{HasResult, cell_at, last_result}
use Rattle.ws_pages.specs.Page.{count_not_run, count_of, group_of, is_same, not_run_html}
use Rattle.ws_pages.specs.PageText.{on_page}
use Rattle.ws_pages.specs.ShortNames.{short_front}

-- ---- texts

-- what is computed at texts that are written out
unfoldable on_texts : ⊤
unfolding chars is_utf8 encode_utf8 on_page
on_texts = tt

pub marks_of_a_page : on_page (codes "<a b=\"c\">'&'") ≡ codes "&lt;a b=&quot;c&quot;&gt;&#39;&amp;&#39;"
unfolding on_texts
marks_of_a_page = refl

-- `ü` and a line feed are shown; a tab, U+0085 and U+202E, which turns the order of others, are replaced
pub hidden_characters : on_page (195 ∷ 188 ∷ 10 ∷ 9 ∷ 194 ∷ 133 ∷ 226 ∷ 128 ∷ 174 ∷ [])
    ≡ 195 ∷ 188 ∷ 10 ∷ codes "&#xFFFD;&#xFFFD;&#xFFFD;"
unfolding on_texts
hidden_characters = refl

-- in a text that isn't UTF-8, also a byte of `ü` is replaced
pub text_of_no_characters : on_page (255 ∷ 195 ∷ 188 ∷ 97 ∷ []) ≡ codes "&#xFFFD;&#xFFFD;&#xFFFD;a"
unfolding on_texts
text_of_no_characters = refl

-- a name is cut in front of its 25th character, not of its 25th byte
pub front_of_a_name : short_front (195 ∷ 188 ∷ codes "abcdefghijklmnopqrstuvwxyz")
    ≡ 195 ∷ 188 ∷ codes "abcdefghijklmnopqrstuvw"
front_of_a_name = refl

pub group_before_a_dot : group_of (codes "12.1.3") ≡ codes "12"
group_before_a_dot = refl

pub group_without_a_dot : group_of (codes "mine") ≡ codes "mine"
group_without_a_dot = refl

-- ---- tables

-- a peer with a result of this case and these words, whose run was cut off or not
abbrev peer : Bool → List ℕ → List ℕ → PeerValue
peer is_cut_off id words = record {
  name = codes "one";
  notes = [];
  is_cut_off = is_cut_off;
  cells = record { id = id; words = words; line = []; below = [] } ∷ [];
}

-- a row in which one peer has no line differs
pub missing_line_differs :
    is_same (peer false (codes "1") (codes "PASS") ∷ peer false (codes "2") (codes "PASS") ∷ []) (codes "1") ≡ false
missing_line_differs = refl

-- a missing connection isn't a missing line
pub no_connection_is_counted : count_of (codes "1" ∷ codes "2" ∷ []) (peer false (codes "1") (codes "no connection"))
    NoConnection ≡ 1
no_connection_is_counted = refl

-- a case that no client asked for wasn't run, another Fail was, and of none nothing is said
pub not_run_is_counted : count_not_run (codes "1" ∷ codes "2" ∷ []) (peer false (codes "1") (codes "FAIL NotRun")) ≡ 1
not_run_is_counted = refl

pub other_fail_was_run : count_not_run (codes "1" ∷ []) (peer false (codes "1") (codes "FAIL Close")) ≡ 0
other_fail_was_run = refl

pub none_is_not_told : not_run_html 0 ≡ []
none_is_not_told = refl

-- of a run that was cut off, the listed cases that weren't run have rows; not beside a whole one
pub rows_of_a_cut_run :
    row_ids (record { peers = peer true (codes "2") (codes "PASS") ∷ []; ids = codes "2" ∷ [] })
    (codes "1" ∷ codes "2" ∷ []) ≡ codes "2" ∷ codes "1" ∷ []
rows_of_a_cut_run = refl

pub rows_of_a_whole_run : row_ids (record {
  peers = peer true (codes "2") (codes "PASS") ∷ peer false (codes "2") (codes "PASS") ∷ [];
  ids = codes "2" ∷ [];
}) (codes "1" ∷ codes "2" ∷ []) ≡ codes "2" ∷ []
rows_of_a_whole_run = refl

-- ---- which line is in which cell

-- A case that two peers ran, the first of them, which has no name, twice: its second line is explained. It ran another
-- case too.
abbrev lines_of_two : List RunLine
lines_of_two = Other ∷ Verdict (codes "2.1") (codes "FAIL Close") (codes "2.1 FAIL Close") ∷ Below (codes "  got")
    ∷ Peer (codes "two") ∷ Note (codes "version 1") ∷ Verdict (codes "2.1") (codes "PASS") (codes "2.1 PASS (new)")
    ∷ Total ∷ Peer (codes "-") ∷ Verdict (codes "2.1") (codes "FAIL End") (codes "2.1 FAIL End")
    ∷ Below (codes "  due 1 pong") ∷ Below (codes "  got 1 pong")
    ∷ Verdict (codes "2.2") (codes "PASS") (codes "2.2 PASS") ∷ Total ∷ []

-- a result of 2.1
abbrev result_of : List ℕ → List ℕ → List ℕ → ResultValue
result_of words line below = record { id = codes "2.1"; words = words; line = line; below = below }

-- the last line of the peer and the case, with the lines below that
pub last_line_counts : last_result lines_of_two (codes "-") (codes "2.1")
    ≡ Some (result_of (codes "FAIL End") (codes "2.1 FAIL End") (codes "  due 1 pong\n  got 1 pong\n"))
last_line_counts = refl

-- no line of another peer, though that comes later
pub line_of_its_peer : last_result lines_of_two (codes "two") (codes "2.1")
    ≡ Some (result_of (codes "PASS") (codes "2.1 PASS (new)") [])
line_of_its_peer = refl

-- no line of another case, and none of a peer that isn't there
pub no_line_of_the_case : last_result lines_of_two (codes "two") (codes "2.2") ≡ None
no_line_of_the_case = refl

pub no_line_of_the_peer : last_result lines_of_two (codes "three") (codes "2.1") ≡ None
no_line_of_the_peer = refl

pub result_of_its_peer : HasResult lines_of_two (codes "two") (codes "2.1")
result_of_its_peer = (result_of (codes "PASS") (codes "2.1 PASS (new)") [], refl)

-- the cell of a peer, by its name, and of a case
pub cell_of_a_peer : cell_at (peer false (codes "2.1") (codes "PASS") ∷ []) (codes "one") (codes "2.1")
    ≡ Some (result_of (codes "PASS") [] [])
cell_of_a_peer = refl

pub cell_of_no_case : cell_at (peer false (codes "2.1") (codes "PASS") ∷ []) (codes "one") (codes "2.2") ≡ None
cell_of_no_case = refl

pub cell_of_no_peer : cell_at (peer false (codes "2.1") (codes "PASS") ∷ []) (codes "two") (codes "2.1") ≡ None
cell_of_no_peer = refl
