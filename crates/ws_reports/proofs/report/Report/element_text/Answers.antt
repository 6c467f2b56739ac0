-- The element is that of the case's full name and of the words of its verdict.
use Rattle.std.proofs.Common.{rules, ◌≡◌, List, ℕ, Bool, IfOk, string_bytes, subst}
use Rattle.ws_reports.specs.Junit.{full_name}
use Rattle.ws_reports.specs.Remarks.{reason_on, told_failed}
use Rattle.ws_reports.specs.Reports.{element_by, told_words}
use Rattle.ws_reports.specs.Told.{texts_of}
use Rattle.ws_reports.proofs.report.Report.element_text.Goals as goal

pub returns : goal.returns
returns c =
    let told = texts_of c.args.told in
    let report = c.args.self.now in
    let name : c.as_str.result.now ≡ full_name told.id told.title = search rules in
    let words : c.args.words.now ≡ told_words report told = c.requires in
    let fails : c.is_failed.result ≡ told_failed report.known told = c.is_failed.ensures in
    let reason : c.reason-reason.result.now ≡ reason_on report.known told = c.reason-reason.ensures in
    subst (λ (l : List ℕ). IfOk c.element_by.result (λ text. string_bytes text ≡ l))
    (λ i. element_by (fails i) (reason i) told (name i) (words i)) c.element_by.ensures
