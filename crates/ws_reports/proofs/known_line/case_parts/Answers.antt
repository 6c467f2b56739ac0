-- A line is cut in one way.
use Rattle.std.proofs.Common.{◌∙◌, ◌++◌, sym}
use Rattle.std.proofs.lemmas.Bool.{false≢true}
use Rattle.ws_reports.proofs.Cuts.{no_cut}
use Rattle.ws_reports.proofs.Parts.{is_case, tells_none}
use Rattle.ws_reports.proofs.known_line.case_parts.Goals as goal

pub returns-in_default : goal.returns-in_default
returns-in_default c = λ id words (is, verdict, (remark, may, e)).
    no_cut 32 c.args.line.now id (words ++ remark) c.in_default.ensures e

pub returns-then-are_parts : goal.returns-then-are_parts
returns-then-are_parts c =
    is_case c.args.line.now c.in-Some.id.now c.in-Some.rest.now c.cut_remark.result.0.now c.cut_remark.result.1.now
    c.in-Some.ensures c.cut_remark.ensures (c.are_parts.ensures.0 c.if-are_parts.true)

pub returns-else-are_parts : goal.returns-else-are_parts
returns-else-are_parts c =
    tells_none c.args.line.now c.in-Some.id.now c.in-Some.rest.now c.cut_remark.result.0.now c.cut_remark.result.1.now
    c.in-Some.ensures c.cut_remark.ensures
    (λ parts. false≢true (sym c.if-are_parts.false ∙ c.are_parts.ensures.1 parts))
