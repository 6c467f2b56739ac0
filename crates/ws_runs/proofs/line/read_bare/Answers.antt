-- What is neither a total nor beside cases, and tells of no case, is no line of runs.
use Rattle.std.proofs.Common.{◌∙◌, sym}
use Rattle.std.proofs.lemmas.Bool.{false≢true}
use Rattle.ws_runs.proofs.ReadLemmas.{means_nothing}
use Rattle.ws_runs.proofs.line.read_bare.Goals as goal

pub returns-in-None : goal.returns-in-None
returns-in-None c = λ meaning is.
    means_nothing c.args.line.now c.requires
    (λ total. false≢true (sym c.if-is_total.false ∙ c.is_total.ensures.1 total))
    (λ beside. false≢true (sym c.if-is_beside_cases.false ∙ c.is_beside_cases.ensures.1 beside)) c.in-None.ensures
    meaning is
