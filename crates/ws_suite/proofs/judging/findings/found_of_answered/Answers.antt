-- Each due reply was got, and no other.
use Rattle.std.proofs.Common.{◌≡◌, ◌∙◌, ◌↔◌, ◌<◌, true, List, ap, sym, subst, length}
use Rattle.ws_suite.specs.declared.evidence.InTurn.{InTurn}
use Rattle.ws_suite.specs.declared.evidence.Reply.{Reply}
use Rattle.ws_suite.specs.Matching.{pong_replies}
use Rattle.ws_suite.proofs.AnsweredLemmas.{answered_findings}
use Rattle.ws_suite.proofs.judging.findings.found_of_answered.Goals as goal

pub returns : goal.returns
returns c = λ x same each. answered_findings x c.is_any-owes_pongs.result each
    (subst (λ (l : List (InTurn Reply)). (c.is_any-owes_pongs.result ≡ true) ↔ (0 < length l))
    (c.among.ensures ∙ ap (λ (l : List (InTurn Reply)). pong_replies l) (sym same)) c.is_any-owes_pongs.ensures)
