-- How the cases of a run stand beside an earlier run, and how many stand so.
use Rattle.std.specs.Prelude.{◌≤◌, ◌+◌, ◌^◌, ℕ, Bool, true, false, List, [], ◌∷◌, Option, Some, None, codes, filter}
use Rattle.std.specs.Prelude.{if◌then◌else◌, length}
use Rattle.std.specs.Fmt.{decimal}
use Rattle.std.specs.List.{concat}
use Rattle.std.specs.Str.{bytes_eq}
use Rattle.ws_reports.specs.Known.{known_verdict}
use Rattle.ws_reports.specs.Told.{ToldValue}
use Rattle.ws_reports.specs.Verdicts.{tells_fail}
use Rattle.ws_reports.specs.declared.known_counts.Change.{Change}
use Rattle.ws_reports.specs.declared.known_counts.Change.TheVariants.{Changed, Fixed, New, Same}
use Rattle.ws_reports.specs.declared.known_counts.KnownCounts.{KnownCounts}
use Rattle.ws_reports.specs.declared.known_line.KnownLine.{KnownLine}

-- ---- one case

-- Another verdict than the known one, by whether that was a Fail and whether it is one (a case without a connection is
-- one): a Fail where there was none is new, none where there was one is fixed, and any other is changed.
abbrev pub change_by : Bool → Bool → Change
change_by false true = New
change_by true false = Fixed
change_by true true = Changed
change_by false false = Changed

-- how a verdict stands beside the known one
abbrev pub change_since : List ℕ → List ℕ → Change
change_since known verdict = if bytes_eq known verdict then Same else change_by (tells_fail known) (tells_fail verdict)

-- how it stands beside what is known: of a case of which nothing is known no Fail was
abbrev pub change_beside : Option (List ℕ) → List ℕ → Change
change_beside None verdict = change_by false (tells_fail verdict)
change_beside (Some known) verdict = change_since known verdict

-- how a case stands beside an earlier run, where one is known
abbrev pub change_on : Option (List KnownLine) → ToldValue → Option Change
change_on None told = None
change_on (Some lines) told = Some (change_beside (known_verdict told.id lines) told.verdict)

-- ---- cases

-- a case stands so
abbrev pub stands_so : Change → Option Change → Bool
stands_so Same (Some Same) = true
stands_so New (Some New) = true
stands_so Fixed (Some Fixed) = true
stands_so Changed (Some Changed) = true
stands_so _ _ = false

-- how many of these cases stand so
abbrev pub known_counts : List (Option Change) → KnownCounts
known_counts changes = record {
  same = length (filter (stands_so Same) changes);
  new = length (filter (stands_so New) changes);
  fixed = length (filter (stands_so Fixed) changes);
  changed = length (filter (stands_so Changed) changes);
}

-- the line of these counts
abbrev pub counts_line : KnownCounts → List ℕ
counts_line counts = concat (codes "known: " ∷ decimal counts.same ∷ codes " same, " ∷ decimal counts.new
    ∷ codes " new, " ∷ decimal counts.fixed ∷ codes " fixed, " ∷ decimal counts.changed ∷ codes " changed\n" ∷ [])

-- it stands behind the total where an earlier run is known
abbrev pub known_line : Option (List KnownLine) → KnownCounts → List ℕ
known_line None counts = []
known_line (Some lines) counts = counts_line counts

-- ---- a step of a count: a reader may skip what follows

abbrev pub no_counts : KnownCounts
no_counts = record { same = 0; new = 0; fixed = 0; changed = 0 }

abbrev pub counts_with : KnownCounts → Change → KnownCounts
counts_with counts Same = record counts { same = counts.same + 1 }
counts_with counts New = record counts { new = counts.new + 1 }
counts_with counts Fixed = record counts { fixed = counts.fixed + 1 }
counts_with counts Changed = record counts { changed = counts.changed + 1 }

-- and with a case that stands so, where an earlier run is known
abbrev pub counts_if : KnownCounts → Option Change → KnownCounts
counts_if counts None = counts
counts_if counts (Some change) = counts_with counts change

-- how many stand so
abbrev pub count_at : KnownCounts → Change → ℕ
count_at counts Same = counts.same
count_at counts New = counts.new
count_at counts Fixed = counts.fixed
count_at counts Changed = counts.changed

-- 64 bits can't count one more that stands so
abbrev pub HasNoRoomFor : KnownCounts → Change → Type 0
HasNoRoomFor counts change = 2 ^ 64 ≤ count_at counts change + 1
