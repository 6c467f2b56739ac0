-- The words and the lines below, escaped one after the other, are the text that is escaped.
use Rattle.std.proofs.Common.{◌∙◌, ◌∷◌, ◌++◌, ℕ, List, ap, append_assoc, codes, subst, sym}
use Rattle.std.specs.Fmt.{HasWritten}
use Rattle.ws_junit.specs.Documents.{case_name}
use Rattle.ws_reports.specs.Escaping.{escaped, quoted}
use Rattle.ws_junit.proofs.Names.{escaped_note}
use Rattle.ws_junit.proofs.elements.NotedElementDisplay.fmt.Goals as goal

pub returns-clause-writes : goal.returns-clause-writes
returns-clause-writes g c = λ plain ok.
    let cell = c.args.self.now.0 in
    let words = escaped cell.words.now in
    let below = escaped cell.below.now in
    let end = codes "</system-out></testcase>\n" in
    let name = quoted (case_name cell.id.now) in
    subst (λ (l : List ℕ). HasWritten g.W.Write.write_str_gives c.args.f.now l c.write.new.self)
    (ap (λ (l : List ℕ). codes "<testcase classname=\"wst\" name=\"" ++ (name ++ (codes "\"><system-out>" ++ l)))
    (sym (append_assoc words (10 ∷ below) end)
    ∙ sym (ap (λ (l : List ℕ). l ++ end) (escaped_note cell.words.now cell.below.now))))
    (c.write.ensures.writes plain ok)
