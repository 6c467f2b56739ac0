-- The last one that was passed is the last of all.
use Rattle.std.proofs.Common.{◌≡◌, ◌∙◌, ◌++◌, ◌∷◌, [], List, None, ap, sym, rules, append_assoc}
use Rattle.ws_suite.specs.declared.evidence.InTurn.{InTurn}
use Rattle.ws_suite.specs.declared.evidence.Reply.{Reply}
use Rattle.ws_suite.specs.Kept.{reply_in}
use Rattle.ws_suite.proofs.EvidenceLemmas.{last_joined}
use Rattle.ws_suite.proofs.judging.pongs.last_of.Goals as goal

pub loop-reply-preserved : goal.loop-reply-preserved
loop-reply-preserved c =
    let i = c.loop-reply.invariant in
    let first = reply_in c.in-Some.reply in
    let left : c.loop-reply.left ≡ first ∷ c.next.new.self = search rules in (
      i.0 ++ first ∷ [],
      i.1 ∙ (ap (λ (l : List (InTurn Reply)). i.0 ++ l) left ∙ sym (append_assoc i.0 (first ∷ []) c.next.new.self)),
      last_joined None i.0 (first ∷ []),
    )
