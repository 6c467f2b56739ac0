-- What is written of a run: lines and a total, or a JUnit document.
use Rattle.std.specs.Prelude.{ℕ, Bool, List, [], ◌∷◌, ◌++◌, Option, codes, if◌then◌else◌}
use Rattle.std.specs.List.{concat}
use Rattle.std.specs.Str.{bytes_eq}
use Rattle.ws_reports.specs.Junit.{failed_case, full_name, junit_end, junit_start, noted_case, noted_text, passed_case}
use Rattle.ws_reports.specs.Junit.{skipped_case}
use Rattle.ws_reports.specs.Remarks.{reason_on, remark_on, told_failed}
use Rattle.ws_reports.specs.Told.{ToldValue}
use Rattle.ws_reports.specs.Verdicts.{tells_fail}
use Rattle.ws_reports.specs.declared.known_line.KnownLine.{KnownLine}

-- whether a run is told as a JUnit document, whether a summary stands behind its cases, and the lines of the earlier
-- run that is known, if one is
pub record ReportValue : Type 0 where
  pub is_junit : Bool
  pub has_summary : Bool
  pub known : Option (List KnownLine)

-- what stands behind the name of a case: the words of its verdict, and what is otherwise
abbrev pub told_words : ReportValue → ToldValue → List ℕ
told_words report told = told.verdict ++ remark_on report.known told

-- the line of a case, and what stands below it
abbrev pub told_text : ReportValue → ToldValue → List ℕ
told_text report told = concat (told.id ∷ codes " " ∷ told_words report told ∷ codes "\n" ∷ told.below ∷ [])

-- the element of a case in a document: a failure where a run of it alone would be said to have failed, with the reason
-- before the lines below; nothing where it passed; and for another Fail, which is the known one, that it is skipped
abbrev pub element_by : Bool → List ℕ → ToldValue → List ℕ → List ℕ → List ℕ
element_by is_failed reason told name words =
    if is_failed then failed_case name told.verdict words (reason ++ told.below)
    else (if bytes_eq told.verdict (codes "PASS") then passed_case name
    else (if tells_fail told.verdict then skipped_case name words
    else noted_case name (noted_text words told.below)))

abbrev pub case_element : ReportValue → ToldValue → List ℕ
case_element report told =
    element_by (told_failed report.known told) (reason_on report.known told) told (full_name told.id told.title)
    (told_words report told)

-- what is written before any case
abbrev pub start_text : ReportValue → List ℕ → List ℕ
start_text report target = if report.is_junit then junit_start target else []

-- what is written of a case
abbrev pub case_text : ReportValue → ToldValue → List ℕ
case_text report told = if report.is_junit then case_element report told else told_text report told

-- what is written last
abbrev pub end_text : ReportValue → List ℕ → List ℕ
end_text report total = if report.is_junit then junit_end else total
