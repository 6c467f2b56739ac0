-- What is otherwise than an earlier run says.
use Rattle.std.specs.Prelude.{ℕ, Bool, true, not, List, [], ◌++◌, Option, Some, None, codes, if◌then◌else◌}
use Rattle.std.specs.Str.{bytes_eq}
use Rattle.ws_reports.specs.Known.{known_verdict}
use Rattle.ws_reports.specs.Told.{ToldValue}
use Rattle.ws_reports.specs.Verdicts.{is_same_verdict, tells_fail}
use Rattle.ws_reports.specs.declared.known_line.KnownLine.{KnownLine}
use Rattle.ws_reports.specs.declared.remark.Remark.{Remark}
use Rattle.ws_reports.specs.declared.remark.Remark.TheVariants.{New, Nothing, Was}

-- what stands behind the words of a verdict, where these words are known of the case
abbrev pub remark_beside : Option (List ℕ) → List ℕ → List ℕ
remark_beside None verdict = codes " (new)"
remark_beside (Some known) verdict = if bytes_eq known verdict then [] else codes " (was " ++ known ++ codes ")"

-- nothing, where no earlier run is known
abbrev pub remark_on : Option (List KnownLine) → ToldValue → List ℕ
remark_on None told = []
remark_on (Some lines) told = remark_beside (known_verdict told.id lines) told.verdict

-- the verdict of a case is new, or doesn't count as the one that is known
abbrev pub is_otherwise : Option (List ℕ) → List ℕ → Bool
is_otherwise None verdict = true
is_otherwise (Some known) verdict = not (is_same_verdict known verdict)

-- A run of this case alone would be said to have failed: where no earlier run is known, its verdict is a Fail; else it
-- is otherwise than the earlier run says.
abbrev pub told_failed : Option (List KnownLine) → ToldValue → Bool
told_failed None told = tells_fail told.verdict
told_failed (Some lines) told = is_otherwise (known_verdict told.id lines) told.verdict

-- Why a case is said to have failed though its verdict is no Fail: none is known of it, or the Fail that is known is
-- gone.
abbrev pub reason_beside : Option (List ℕ) → List ℕ
reason_beside None = codes "no known verdict: write the known verdicts again\n"
reason_beside (Some known) = if tells_fail known then codes "fixed: write the known verdicts again\n" else []

-- nothing, where its verdict is a Fail or no earlier run is known
abbrev pub reason_on : Option (List KnownLine) → ToldValue → List ℕ
reason_on None told = []
reason_on (Some lines) told = if tells_fail told.verdict then [] else reason_beside (known_verdict told.id lines)

-- ---- inside the crate

abbrev pub remark_words : Remark → List ℕ
remark_words Nothing = []
remark_words New = codes " (new)"
remark_words (Was words) = codes " (was " ++ words.now ++ codes ")"
