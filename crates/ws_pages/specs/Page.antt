-- A page of HTML about runs: a table with a row for each case and a column for each peer.
use Rattle.std.specs.Prelude.{◌≡◌, ◌==◌, ◌+◌, ℕ, nat_lt, Bool, true, false, not, List, [], ◌∷◌, ◌++◌, Option, Some}
use Rattle.std.specs.Prelude.{None, codes, filter, flat_map, length, if◌then◌else◌}
use Rattle.std.specs.List.{concat, count_by, list_all}
use Rattle.std.specs.Fmt.{decimal}
use Rattle.std.specs.Str.{bytes_eq}
use Rattle.ws_runs.specs.Marks.{cell_mark, mark_of_words, same_mark, why_of}
use Rattle.ws_runs.specs.Rows.{row_ids}
use Rattle.ws_runs.specs.Runs.{PeerValue, ResultValue, RunsValue, cell_of}
use Rattle.ws_runs.specs.declared.mark.Mark.{Mark}
use Rattle.ws_runs.specs.declared.mark.Mark.TheVariants.{Fail, Loose, Missing, NoConnection, Pass}
use Rattle.ws_pages.specs.NamedTexts.{text_named}
use Rattle.ws_pages.specs.PageText.{on_page}
use Rattle.ws_pages.specs.ShortNames.{short_name, title_attribute}
use Rattle.ws_pages.specs.declared.named_text.NamedText.{NamedText}
use Rattle.ws_pages.specs.declared.style.TheConstants.{BACK, FAILS, FILTER, FRONT, LEGEND}

-- what a page has beside the runs: the titles and scripts of cases, the names of groups, and the rules of verdicts
pub record PageTextsValue : Type 0 where
  pub titles : List NamedText
  pub scripts : List NamedText
  pub groups : List NamedText
  pub rules : List NamedText

-- what the tables of a page are made of: the columns, the rows, and the texts
pub record TableValue : Type 0 where
  pub peers : List PeerValue
  pub ids : List (List ℕ)
  pub texts : PageTextsValue

-- ---- a cell

-- the letter of a mark
abbrev pub mark_letter : Mark → List ℕ
mark_letter Pass = codes "P"
mark_letter Loose = codes "L"
mark_letter Fail = codes "F"
mark_letter NoConnection = codes "X"
mark_letter Missing = codes "-"

-- the class that gives a mark its form and color
abbrev pub mark_class : Mark → List ℕ
mark_class Pass = codes "P"
mark_class Loose = codes "L"
mark_class Fail = codes "F"
mark_class NoConnection = codes "X"
mark_class Missing = codes "N"

-- the letter of a result, which leads to the row of its case
abbrev pub letter_html : List ℕ → Mark → List ℕ
letter_html id mark = concat (codes "<td class=\"" ∷ mark_class mark ∷ codes "\"><a href=\"#c-" ∷ on_page id
    ∷ codes "\">" ∷ mark_letter mark ∷ codes "</a></td>" ∷ [])

-- the cell of a peer and a case
abbrev pub cell_html : List ℕ → Option ResultValue → List ℕ
cell_html id None = codes "<td class=\"N\">-</td>"
cell_html id (Some result) = letter_html id (mark_of_words result.words)

abbrev pub cell_in_row : List ℕ → PeerValue → List ℕ
cell_in_row id peer = cell_html id (cell_of peer.cells id)

-- the cells of a case, in the order of the columns
abbrev pub cells_html : List PeerValue → List ℕ → List ℕ
cells_html peers id = flat_map (cell_in_row id) peers

-- ---- what a row opens

-- a paragraph, or nothing for an empty text
abbrev pub paragraph : List ℕ → List ℕ
paragraph [] = []
paragraph (byte ∷ bytes) = concat (codes "<p>" ∷ on_page (byte ∷ bytes) ∷ codes "</p>" ∷ [])

-- a rule, if these lines below that of a case are none: lines that explain a verdict have its rule
abbrev pub rule_below : List ℕ → List ℕ → List ℕ
rule_below [] rule = paragraph rule
rule_below (byte ∷ bytes) rule = []

-- the rule of a result
abbrev pub rule_html : List NamedText → ResultValue → List ℕ
rule_html rules result = rule_below result.below (text_named rules (why_of result.words))

-- a result in words: the name of the peer, the line of the case, the lines below, and the rule
abbrev pub words_html : List NamedText → List ℕ → ResultValue → List ℕ
words_html rules name result = concat (codes "<div class=\"" ∷ mark_class (mark_of_words result.words) ∷ codes "\"><b>"
    ∷ short_name name ∷ codes "</b><pre>" ∷ on_page result.line ∷ codes "\n" ∷ on_page result.below ∷ codes "</pre>"
    ∷ rule_html rules result ∷ codes "</div>" ∷ [])

-- a result in words, if there is one
abbrev pub result_html : List NamedText → List ℕ → Option ResultValue → List ℕ
result_html rules name None = []
result_html rules name (Some result) = words_html rules name result

abbrev pub peer_result_html : List NamedText → List ℕ → PeerValue → List ℕ
peer_result_html rules id peer = result_html rules peer.name (cell_of peer.cells id)

-- the results of a case, in the order of the columns
abbrev pub results_html : TableValue → List ℕ → List ℕ
results_html table id = flat_map (peer_result_html table.texts.rules id) table.peers

-- a script, or nothing for an empty text
abbrev pub script_html : List ℕ → List ℕ
script_html [] = []
script_html (byte ∷ bytes) = concat (codes "<pre>" ∷ on_page (byte ∷ bytes) ∷ codes "</pre>" ∷ [])

-- how many columns the table has
abbrev pub width_of : TableValue → List ℕ
width_of table = decimal (length table.peers + 1)

-- the panel of a case, below its row: its script, and its results in words
abbrev pub panel_html : TableValue → List ℕ → List ℕ
panel_html table id = concat (codes "<tr class=\"panel\"><td colspan=\"" ∷ width_of table
    ∷ codes "\"><div><a href=\"#-\">Close</a>" ∷ script_html (text_named table.texts.scripts id) ∷ codes "<div>"
    ∷ results_html table id ∷ codes "</div></div></td></tr>\n" ∷ [])

-- ---- a row

-- the mark of the cell of a peer and a case
abbrev pub mark_at : List ℕ → PeerValue → Mark
mark_at id peer = cell_mark (cell_of peer.cells id)

-- all of these peers have this mark in the case
abbrev pub have_mark : List PeerValue → List ℕ → Mark → Bool
have_mark peers id mark = list_all (λ peer. same_mark (mark_at id peer) mark) peers

-- all peers have the same mark in the case, that of the first
abbrev pub is_same : List PeerValue → List ℕ → Bool
is_same [] id = true
is_same (first ∷ others) id = have_mark (first ∷ others) id (mark_at id first)

-- the class of a row, by which the filter hides those in which all peers have the same mark
abbrev pub row_class : Bool → List ℕ
row_class true = codes "same"
row_class false = codes "other"

-- what the case tries, if that is known
abbrev pub case_title_html : List ℕ → List ℕ
case_title_html [] = []
case_title_html (byte ∷ bytes) = concat (codes " <span>" ∷ on_page (byte ∷ bytes) ∷ codes "</span>" ∷ [])

-- the name of a case, a link to its row, and its title
abbrev pub case_head_html : List NamedText → List ℕ → List ℕ
case_head_html titles id = concat (codes "<th scope=\"row\"><a href=\"#c-" ∷ on_page id ∷ codes "\">" ∷ on_page id
    ∷ codes "</a>" ∷ case_title_html (text_named titles id) ∷ codes "</th>" ∷ [])

-- the beginning of the row of a case, to which a link of its name leads
abbrev pub row_start_html : List PeerValue → List ℕ → List ℕ
row_start_html peers id = concat (codes "<tr class=\"" ∷ row_class (is_same peers id) ∷ codes "\" id=\"c-" ∷ on_page id
    ∷ codes "\">" ∷ [])

-- the row without its panel: the name of the case and the cells
abbrev pub case_row_html : TableValue → List ℕ → List ℕ
case_row_html table id = concat (row_start_html table.peers id ∷ case_head_html table.texts.titles id
    ∷ cells_html table.peers id ∷ codes "</tr>\n" ∷ [])

-- the row of a case, and the panel that it opens
abbrev pub row_html : TableValue → List ℕ → List ℕ
row_html table id = case_row_html table id ++ panel_html table id

-- ---- a group

-- the name of a group, if it has one
abbrev pub group_name_html : List ℕ → List ℕ
group_name_html [] = []
group_name_html (byte ∷ bytes) = codes ": " ++ on_page (byte ∷ bytes)

-- what begins a group, which folds
abbrev pub group_html : TableValue → List ℕ → List ℕ
group_html table group = concat (codes "</tbody>\n<tbody>\n<tr class=\"group\"><th scope=\"rowgroup\" colspan=\""
    ∷ width_of table ∷ codes "\"><label><input type=\"checkbox\" checked> Group " ∷ on_page group
    ∷ group_name_html (text_named table.texts.groups group) ∷ codes "</label></th></tr>\n" ∷ [])

-- a name up to its first dot
abbrev pub group_of : List ℕ → List ℕ
group_of [] = []
group_of (byte ∷ bytes) = if byte == 46 then [] else byte ∷ group_of bytes

-- what is in front of a row: the beginning of its group, if the row before is of another
abbrev pub group_front : TableValue → List ℕ → List ℕ → List ℕ
group_front table last group = if bytes_eq last group then [] else group_html table group

-- a row, if the row before is of this group
abbrev pub row_in_group : TableValue → List ℕ → List ℕ → List ℕ
row_in_group table last id = group_front table last (group_of id) ++ row_html table id

-- the rows of these cases, if the row before them is of this group
abbrev pub rows_from : TableValue → List (List ℕ) → List ℕ → List ℕ
rows_from table [] last = []
rows_from table (id ∷ ids) last = row_in_group table last id ++ rows_from table ids (group_of id)

abbrev pub rows_html : TableValue → List ℕ
rows_html table = rows_from table table.ids []

-- ---- heads

-- of a peer whose run was cut off: how many of the cases were run
abbrev pub run_html : List (List ℕ) → PeerValue → List ℕ
run_html ids peer =
    if peer.is_cut_off
    then concat (codes "<small>" ∷ decimal (length peer.cells) ∷ codes " of " ∷ decimal (length ids)
    ∷ codes " run</small>" ∷ [])
    else []

-- the head of a column: the name, as a whole in an attribute if it is cut short
abbrev pub head_html : List (List ℕ) → PeerValue → List ℕ
head_html ids peer = concat (codes "<th scope=\"col\" class=\"end\"" ∷ title_attribute peer.name ∷ codes "><span>"
    ∷ short_name peer.name ∷ codes "</span>" ∷ run_html ids peer ∷ codes "</th>" ∷ [])

-- the heads of the columns
abbrev pub heads_html : TableValue → List ℕ
heads_html table = flat_map (head_html table.ids) table.peers

-- ---- totals

-- how many of these cases have a mark in the cell of a peer
abbrev pub count_of : List (List ℕ) → PeerValue → Mark → ℕ
count_of ids peer mark = count_by (λ id. same_mark (mark_at id peer) mark) ids

-- how many of them fail, or have no connection
abbrev pub fails_of : List (List ℕ) → PeerValue → ℕ
fails_of ids peer = count_of ids peer Fail + count_of ids peer NoConnection

-- a result says that its case wasn't run: no client asked for it
abbrev pub was_not_run : Option ResultValue → Bool
was_not_run None = false
was_not_run (Some result) = bytes_eq result.words (codes "FAIL NotRun")

-- how many of these cases have such a result of a peer
abbrev pub count_not_run : List (List ℕ) → PeerValue → ℕ
count_not_run ids peer = count_by (λ id. was_not_run (cell_of peer.cells id)) ids

-- how many of those that fail weren't run, if there are any
abbrev pub not_run_html : ℕ → List ℕ
not_run_html count = if count == 0 then [] else concat (codes " (" ∷ decimal count ∷ codes " not run)" ∷ [])

-- what more is said of a peer
abbrev pub note_html : List ℕ → List ℕ
note_html note = concat (codes "<div>" ∷ on_page note ∷ codes "</div>" ∷ [])

abbrev pub notes_html : List (List ℕ) → List ℕ
notes_html notes = flat_map note_html notes

-- the counts of a peer
abbrev pub counts_html : List (List ℕ) → PeerValue → List ℕ
counts_html ids peer = concat (codes "<td>" ∷ decimal (count_of ids peer Pass) ∷ codes "</td><td>"
    ∷ decimal (count_of ids peer Loose) ∷ codes "</td><td>" ∷ decimal (fails_of ids peer)
    ∷ not_run_html (count_not_run ids peer) ∷ codes "</td><td>" ∷ decimal (count_of ids peer Missing) ∷ codes "</td>"
    ∷ [])

-- the totals of a peer
abbrev pub total_html : List (List ℕ) → PeerValue → List ℕ
total_html ids peer = concat (codes "<tr><th scope=\"row\"><b>" ∷ on_page peer.name ∷ codes "</b>" ∷ run_html ids peer
    ∷ notes_html peer.notes ∷ codes "</th>" ∷ counts_html ids peer ∷ codes "</tr>\n" ∷ [])

-- the totals of all peers
abbrev pub totals_html : TableValue → List ℕ
totals_html table = flat_map (total_html table.ids) table.peers

-- ---- the page

-- the fixed parts of a page: what comes in front of its date, what comes in front of the totals, the filter for rows
-- with a Fail, that for rows in which peers differ, and what comes last
pub record PageFrame : Type 0 where
  pub front : List ℕ
  pub legend : List ℕ
  pub fails : List ℕ
  pub filter : List ℕ
  pub back : List ℕ

-- the fixed parts of each page, in which no text of the input is
abbrev pub fixed_parts : PageFrame
fixed_parts =
    record { front = FRONT.now; legend = LEGEND.now; fails = FAILS.now; filter = FILTER.now; back = BACK.now }

-- the filter, if there is more than one peer
abbrev pub filter_html : List ℕ → List PeerValue → List ℕ
filter_html filter peers = if nat_lt 1 (length peers) then filter else []

-- what is in front of the table: the date and the totals
abbrev pub top_html : PageFrame → List ℕ → TableValue → List ℕ
top_html frame date table = concat (frame.front ∷ paragraph date ∷ frame.legend ∷ totals_html table
    ∷ codes "</tbody></table>\n" ∷ [])

-- the table
abbrev pub table_html : TableValue → List ℕ
table_html table = concat (codes "<main><table class=\"wide\">\n<thead><tr><th scope=\"col\">Case</th>"
    ∷ heads_html table ∷ codes "</tr></thead>\n<tbody>\n" ∷ rows_html table ∷ codes "</tbody></table></main>\n" ∷ [])

-- the page of a table, with a date or another text for its head
abbrev pub page_html : PageFrame → List ℕ → TableValue → List ℕ
page_html frame date table = concat (top_html frame date table ∷ frame.fails ∷ filter_html frame.filter table.peers
    ∷ table_html table ∷ frame.back ∷ [])

-- the table with these columns and rows
abbrev pub table_with : List PeerValue → List (List ℕ) → PageTextsValue → TableValue
table_with peers ids texts = record { peers = peers; ids = ids; texts = texts }

-- the table of these runs, if these cases are listed
abbrev pub table_of : List (List ℕ) → RunsValue → PageTextsValue → TableValue
table_of listed runs texts = table_with runs.peers (row_ids runs listed) texts

-- the page of these runs, with a date or another text for its head, if these cases are listed
abbrev pub IsPageOf : List ℕ → List (List ℕ) → RunsValue → PageTextsValue → List ℕ → Type 0
IsPageOf date listed runs texts page = page ≡ page_html fixed_parts date (table_of listed runs texts)
