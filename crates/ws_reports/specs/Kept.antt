-- The verdicts that a run keeps for its summary.
use Rattle.std.specs.Prelude.{◌≡◌, ℕ, ◌+◌, ◌<◌, if◌then◌else◌, List, [], ◌∷◌, ◌++◌, length, take, drop, codes}
use Rattle.std.specs.Prelude.{Option, None, Some}
use Rattle.std.specs.List.{fold}
use Rattle.std.specs.Str.{bytes_eq}
use Rattle.ws_reports.specs.Reports.{ReportValue}
use Rattle.ws_reports.specs.Told.{ToldValue}
use Rattle.ws_reports.specs.declared.kept.KeptVerdict.{KeptVerdict}

-- Of each case the last verdict, in the order in which they came: that of a case that is there stands in place of the
-- earlier one, and a PASS of any other case isn't kept.
abbrev pub verdict_after : List KeptVerdict → KeptVerdict → List KeptVerdict
verdict_after [] verdict = if bytes_eq verdict.words (codes "PASS") then [] else verdict ∷ []
verdict_after (first ∷ others) verdict =
    if bytes_eq first.id verdict.id then verdict ∷ others else first ∷ verdict_after others verdict

-- with the verdict of a case, if it is to be kept
abbrev pub kept_with : List KeptVerdict → Option KeptVerdict → List KeptVerdict
kept_with kept None = kept
kept_with kept (Some verdict) = verdict_after kept verdict

-- the verdict of a case, where a summary is asked for
abbrev pub verdict_kept : ReportValue → ToldValue → Option KeptVerdict
verdict_kept report told =
    if report.has_summary then Some (record { id = told.id; words = told.verdict }) else None

-- those that are kept of these
abbrev pub kept_of : List (Option KeptVerdict) → List KeptVerdict
kept_of verdicts = fold kept_with [] verdicts

-- ---- inside the crate

-- a verdict of this case goes behind the others, if it is kept
abbrev pub GoesLast : List ℕ → List KeptVerdict → Type 0
GoesLast id kept =
    (verdict : KeptVerdict) → verdict.id ≡ id → verdict_after kept verdict ≡ kept ++ verdict_after [] verdict

-- it goes to this place
abbrev pub GoesTo : List ℕ → List KeptVerdict → ℕ → Type 0
GoesTo id kept place = (place < length kept)
    × ((verdict : KeptVerdict) → verdict.id ≡ id → verdict_after kept verdict
    ≡ take place kept ++ verdict ∷ drop (place + 1) kept)
