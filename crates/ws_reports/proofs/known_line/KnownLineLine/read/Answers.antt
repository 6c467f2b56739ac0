-- A line that isn't beside cases tells of a case or nothing.
use Rattle.std.proofs.Common.{◌∙◌, sym}
use Rattle.std.proofs.lemmas.Bool.{false≢true}
use Rattle.ws_reports.proofs.Parts.{line_read}
use Rattle.ws_reports.proofs.known_line.KnownLineLine.read.Goals as goal

pub returns : goal.returns
returns c =
    line_read c.args.line.now c.read_case_line.result
    (λ beside. false≢true (sym c.if-is_beside_cases.false ∙ c.is_beside_cases.ensures.1 beside)) c.read_case_line.ensures
