-- The words tell it by what stands in front of the name.
use Rattle.ws_reports.proofs.verdict_words.is_head_fail.Goals as goal

pub returns : goal.returns
returns c = (λ is. record { names = c.names_refusal.ensures.0 is }, λ h. c.names_refusal.ensures.1 h.names)
