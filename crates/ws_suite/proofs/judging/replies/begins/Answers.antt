-- Replies of which none is left to compare are a beginning of the others.
use Rattle.std.proofs.Common.{◌≡◌, [], List, ap, rules}
use Rattle.ws_suite.specs.declared.evidence.InTurn.{InTurn}
use Rattle.ws_suite.specs.declared.evidence.Reply.{Reply}
use Rattle.ws_suite.specs.Matching.{bare}
use Rattle.ws_suite.proofs.JudgeLemmas.{nothing_begins}
use Rattle.ws_suite.proofs.judging.replies.begins.Goals as goal

pub returns : goal.returns
returns c =
    let none : c.loop-one.left ≡ [] = search rules in (
      λ t. c.loop-one.invariant.back (nothing_begins (bare c.loop-one.left) (bare c.loop-one.all_left)
          (ap (λ (l : List (InTurn Reply)). bare l) none)),
      λ h. search rules,
    )
