-- What the evidence tells is so.
use Rattle.std.proofs.Common.{refl}
use Rattle.ws_tester.proofs.FactsLemmas.{facts_are}
use Rattle.ws_tester.proofs.tester.Tester.facts.Goals as goal

pub returns : goal.returns
returns c = facts_are _ c.args.self.now c.self.view_is _ refl c.has_sent_end.ensures refl
    c.is_answered_by.ensures.answered (λ tested turns h. (c.is_answered_by.ensures.seen tested turns h).1)
    c.ends_inside_frame.ensures c.cannot_come.ensures
